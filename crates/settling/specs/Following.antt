-- What follows from a write of one property, by the steps of properties alone (docs/settling.md, "Why it holds").
use Rattle.std.specs.Prelude.{◌≡◌, ◌≢◌, ◌⊎◌, ℕ, ◌+◌, ◌<◌, ◌≤◌, Option, None, Some}
use Rattle.basic_types.specs.declared.value.Value.{Value}
use Rattle.binding_graph.specs.declared.binding.Binding.{Binding}
use Rattle.binding_graph.specs.declared.place.Place.{Place}
use Rattle.binding_graph.specs.Bindings.{Reads, Settled}

-- One property is written; its binding goes, and each bound one follows, over values that had been settled. Something falls from
-- each bound property to those that its binding reads.
pub record IsWrite (before after : Place → Option Binding) (old new : Place → Option Value) (written : Place) : Type 0 where
  pub settled_old : Settled before old
  pub settled_new : Settled after new
  pub same : (q : Place) (b : Binding) → q ≢ written → after q ≡ Some b → before q ≡ Some b
  pub kept : (q : Place) → q ≢ written → after q ≡ None → new q ≡ old q
  pub left : Place → ℕ
  pub falls : (q m : Place) (b : Binding) → after q ≡ Some b → Reads b m → left m < left q

-- along bindings steps don't rise, and fall by so much from the written property
pub record StepsFall (after : Place → Option Binding) (written : Place) (step : Place → ℕ) (cost : ℕ) : Type 0 where
  pub along : (q m : Place) (b : Binding) → after q ≡ Some b → Reads b m → step q ≤ step m
  pub leaves : (q : Place) (b : Binding) → after q ≡ Some b → Reads b written → step q + cost ≤ step written

-- what isn't so low keeps its value
abbrev pub OthersStay : Type 0
OthersStay =
    (before after : Place → Option Binding) (old new : Place → Option Value) (written : Place) (step : Place → ℕ) (cost : ℕ) →
    IsWrite before after old new written → StepsFall after written step cost →
    (q : Place) → q ≢ written → ¬ (step q + cost ≤ step written) → new q ≡ old q

-- nothing follows where the written property has the value that it had, or no binding reads it
abbrev pub NothingFollows : Type 0
NothingFollows =
    (before after : Place → Option Binding) (old new : Place → Option Value) (written : Place) →
    IsWrite before after old new written →
    (new written ≡ old written) ⊎ ((q : Place) (b : Binding) → after q ≡ Some b → ¬ Reads b written) →
    (q : Place) → q ≢ written → new q ≡ old q
