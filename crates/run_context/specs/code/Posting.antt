-- What the code does to post a call (docs/machine.md, "Rules").
use Rattle.std.specs.Prelude.{◌≡◌, ℕ, List, [], ◌∷◌, Option, Some, Result}
use Rattle.basic_types.specs.declared.value.Value.{Value}
use Rattle.meta_model.specs.declared.object.MetaMethod.{MetaMethod}
use Rattle.meta_model.specs.Loaded.{Loaded}
use Rattle.object_tree.specs.declared.object.Object.{Object}
use Rattle.object_tree.specs.Objects.{home_of}
use Rattle.connections.specs.declared.connection.Connection.{Connection}
use Rattle.event_loops.specs.declared.item.Item.TheVariants.{Call}
use Rattle.event_loops.specs.Queues.{HasName}
use Rattle.trace_entries.specs.declared.entry.Entry.{Entry}
use Rattle.trace_entries.specs.declared.entry.Entry.TheVariants.{At}
use Rattle.trace_entries.specs.declared.entry.EntryKind.TheVariants.{Posted}
use Rattle.trace_entries.specs.declared.fault.Fault.{Fault}
use Rattle.machine_state.specs.declared.world.World.{World}
use Rattle.machine_state.specs.Objects.{all_shown}
use Rattle.machine_state.specs.code.Changing.{having_used, posting, GoesTo}
use Rattle.machine_rules.specs.There.{IsMember}

-- the entry of a call of a method of an object that is posted to the event loop of this name
abbrev pub entry_of_post : World → ℕ → List ℕ → Object → MetaMethod → List Value → Entry
entry_of_post w depth name x method arguments = At depth (Posted name x.name method.sig.name (all_shown w.store.tree arguments))

-- a connection was used and a call of a method posted to the event loop in which its object lives, where so many
-- activations are on the stack; or memory was refused
pub record PostsCall (p : Loaded) (w : World) (depth : ℕ) (c : Connection) (o m : ℕ) (arguments : List Value)
    (v : World) (result : Result (Unit {0}) Fault) : Type 0 where
  pub object : Object
  pub method : MetaMethod
  pub is : IsMember p w.store.tree o m object method
  pub name : List ℕ
  pub home : ℕ
  pub lives_in : home_of w.store.tree o ≡ Some home
  pub is_loop : HasName w.store.loops.loops name home
  pub becomes :
      GoesTo w (posting (having_used w c) (entry_of_post w depth name object method arguments ∷ []) home (Call o m arguments)) v result
