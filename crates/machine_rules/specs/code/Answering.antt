-- What the code asks of a native's answer before it takes it (docs/natives.md, "The promise").
use Rattle.std.specs.Prelude.{◌≡◌, ℕ, List, Option, Some, slice_get}
use Rattle.std.specs.List.{AllByRecursion}
use Rattle.basic_types.specs.declared.value.Value.{Value}
use Rattle.meta_model.specs.declared.effects.MetaEffects.{MetaEffects}
use Rattle.meta_model.specs.Loaded.{Loaded}
use Rattle.native_slots.specs.declared.action.Action.{Action}
use Rattle.native_slots.specs.declared.action.Action.TheVariants as action
use Rattle.object_tree.specs.declared.object.Object.{Object}
use Rattle.object_tree.specs.Objects.{stored}
use Rattle.trace_entries.specs.declared.entry.Entry.{Entry}
use Rattle.trace_entries.specs.declared.entry.Entry.TheVariants.{At}
use Rattle.trace_entries.specs.declared.entry.EntryKind.TheVariants.{Answered}
use Rattle.trace_entries.specs.declared.entry.ShownAction.{ShownAction}
use Rattle.machine_rules.specs.Natives.{IsShownAs, AreShownAs}

-- the number of the property or of the signal that an action names by its place
abbrev pub member_of_action : MetaEffects → Action → Option ℕ
member_of_action effects (action.Set k value) = slice_get effects.sets k
member_of_action effects (action.Emit k arguments) = slice_get effects.emits k

-- the object has a value of the property
pub record HasStored (objects : List Object) (o q : ℕ) : Type 0 where
  pub value : Value
  pub is : stored objects o q ≡ Some value

-- an action can be written down
pub record IsTellable (p : Loaded) (objects : List Object) (o : ℕ) (effects : MetaEffects) (action : Action) : Type 0 where
  pub line : ShownAction
  pub is : IsShownAs p objects o effects action line

-- each of a list of actions can be written down
abbrev pub AreTellable : Loaded → List Object → ℕ → MetaEffects → List Action → Type 0
AreTellable p objects o effects actions = AllByRecursion (IsTellable p objects o effects) actions

-- the entry of these actions
pub record TellsAnswer (p : Loaded) (objects : List Object) (depth o : ℕ) (effects : MetaEffects) (actions : List Action) (entry : Entry) : Type 0 where
  pub lines : List ShownAction
  pub are : AreShownAs p objects o effects actions lines
  pub is : entry ≡ At depth (Answered lines)
