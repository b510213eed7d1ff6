-- Which actions lie within what may be emitted and set, each action by its place in those lists.
use Rattle.std.specs.Prelude.{ℕ, Bool, false, ◌&&◌, nat_le, List, length, Option}
use Rattle.std.specs.List.{list_all}
use Rattle.std.specs.Option.{option_map_or}
use Rattle.meta_model.specs.declared.object.ValueType.{ValueType}
use Rattle.native_slots.specs.declared.action.Action.{Action}
use Rattle.native_slots.specs.declared.action.Action.TheVariants.{Emit, Set}
use Rattle.native_slots.specs.declared.action.TheConstants.{MOST_ACTIONS}
use Rattle.native_slots.specs.Plain.{is_of, are_of}

-- an emission of the signal at its place with arguments of its types, or a write of the property at its place with a value of
-- its type
abbrev pub is_allowed : {Signal Property : Type 0} → (Signal → List ValueType) → (Property → ValueType) → (ℕ → Option Signal) → (ℕ → Option Property) → Action → Bool
is_allowed types kind signal property (Emit place arguments) = option_map_or (λ it. are_of arguments (types it)) (signal place) false
is_allowed types kind signal property (Set place v) = option_map_or (λ it. is_of v (kind it)) (property place) false

-- so many actions that one answer may have them, and each is allowed
abbrev pub are_allowed : (Action → Bool) → List Action → Bool
are_allowed allowed actions = nat_le (length actions) MOST_ACTIONS && list_all allowed actions
