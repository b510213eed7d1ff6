-- What is found of a method before it begins, and what is written down as it does (docs/machine.md, "Rules").
use Rattle.std.specs.Prelude.{◌≡◌, ℕ, ◌+◌, ◌<◌, ◌≤◌, ◌⊎◌, List, [], ◌∷◌, Result, Ok, Err, false}
use Rattle.basic_types.specs.declared.value.Value.{Value}
use Rattle.meta_model.specs.QObject.{destroyed}
use Rattle.meta_model.specs.declared.object.MetaMethod.{MetaMethod}
use Rattle.meta_model.specs.declared.object.Work.{Work}
use Rattle.meta_model.specs.Loaded.{Loaded}
use Rattle.object_tree.specs.declared.object.Object.{Object}
use Rattle.trace_entries.specs.declared.entry.Entry.{Entry}
use Rattle.trace_entries.specs.declared.entry.Entry.TheVariants.{At}
use Rattle.trace_entries.specs.declared.entry.EntryKind.TheVariants.{Emitted}
use Rattle.trace_entries.specs.declared.entry.Shown.TheVariants.{Null}
use Rattle.trace_entries.specs.declared.fault.Fault.{Fault}
use Rattle.trace_entries.specs.declared.fault.Fault.TheVariants.{TooDeep, Memory}
use Rattle.machine_state.specs.declared.world.World.{World}
use Rattle.machine_state.specs.Objects.{all_shown}
use Rattle.machine_rules.specs.Good.{ArgumentsFit}
use Rattle.machine_rules.specs.Rules.{begin_entry}
use Rattle.machine_rules.specs.There.{IsMember}
use Rattle.run_context.specs.declared.method_call.MethodCall.{MethodCall}

-- whether an activation may be pushed over so many
abbrev pub MayNest : ℕ → ℕ → Result (Unit {0}) Fault → Type 0
MayNest depth below (Ok may) = below < depth
MayNest depth below (Err fault) = (depth ≤ below) × (fault ≡ TooDeep)

-- the arguments of a call are those that its method declares
abbrev pub CallFits : Loaded → List Object → MethodCall → Type 0
CallFits p objects call = ArgumentsFit p objects call.object call.method call.arguments.now

-- the entry of a method of an object that begins with these arguments, where so many activations are on the stack
abbrev pub entry_of_call : World → ℕ → Object → ℕ → MetaMethod → List Value → Entry
entry_of_call w depth x m method arguments = begin_entry depth x m method.sig.name (all_shown w.store.tree arguments) method.work

-- the entry of the signal `destroyed` of an object of this name
abbrev pub entry_of_destroyed : ℕ → List ℕ → Entry
entry_of_destroyed depth name = At depth (Emitted name destroyed.name (Null ∷ []) false)

-- what is found of a method that may begin over so many activations: the line to be written, what is to run, and the last
-- connection that was made before
pub record IsActivated (p : Loaded) (depth below : ℕ) (w : World) (o m : ℕ) (arguments : List Value)
    (line : Entry) (work : Work) (last : ℕ) : Type 0 where
  pub room : below < depth
  pub object : Object
  pub method : MetaMethod
  pub is : IsMember p w.store.tree o m object method
  pub is_line : line ≡ entry_of_call w (below + 1) object m method arguments
  pub is_work : work ≡ method.work
  pub is_last : last ≡ w.store.connections.last

-- why a method that fits doesn't begin: activations would nest too deep, or memory was refused
abbrev pub IsBarred : ℕ → ℕ → Fault → Type 0
IsBarred depth below fault = (depth ≤ below) × (fault ≡ TooDeep) ⊎ (fault ≡ Memory)
