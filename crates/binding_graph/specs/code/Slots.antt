-- Bindings in slots, some of which are empty.
use Rattle.std.specs.Prelude.{ℕ, List, [], ◌∷◌, Option, None, Some, slice_get}
use Rattle.std.specs.Option.{option_and_then}
use Rattle.binding_graph.specs.declared.binding.Binding.{Binding}

-- the bindings, in the order of their slots
abbrev pub filled : List (Option Binding) → List Binding
filled [] = []
filled (None ∷ slots) = filled slots
filled (Some b ∷ slots) = b ∷ filled slots

-- what is in a slot
abbrev pub in_slot : List (Option Binding) → ℕ → Option Binding
in_slot slots i = option_and_then (λ o. o) (slice_get slots i)
