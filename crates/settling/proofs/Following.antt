-- What keeps its value when one property is written.
use Rattle.std.proofs.Common.{◌≡◌, ◌≢◌, ◌⊎◌, inl, inr, ℕ, zero, suc, ◌+◌, ◌<◌, ◌≤◌, [], ◌∷◌, Option, None, Some, refl, sym, ◌∙◌, subst, arith}
use Rattle.basic_types.specs.declared.value.Value.{Value}
use Rattle.binding_graph.specs.declared.binding.Binding.{Binding}
use Rattle.binding_graph.specs.declared.place.Place.{Place}
use Rattle.binding_graph.specs.Bindings.{Reads}
use Rattle.binding_graph.proofs.Naming.{value-agree}
use Rattle.binding_graph.proofs.Places.{decide_in}
use Rattle.settling.specs.Following.{IsWrite, StepsFall}

alone : {written : Place} (q : Place) → (q ≡ written) ⊎ (q ≢ written)
alone {written} q = elim (decide_in q (written ∷ [])) [
  | inl (inl e) ↦ inl (sym e)
  | inl (inr none) ↦ absurd none
  | inr other ↦ inr (λ same. other (inl (sym same)))
]

module _ {before after : Place → Option Binding} {old new : Place → Option Value} {written : Place} (write : IsWrite before after old new written) where
  module _ (P : Place → Type 0) (closed : (q m : Place) (b : Binding) → P q → after q ≡ Some b → Reads b m → P m) (stays : P written → new written ≡ old written) where
    unchanged : (n : ℕ) (q : Place) → write.left q < n → P q → new q ≡ old q
    unchanged zero q low has = absurd (omega (arith, low))
    unchanged (suc n) q low has = by_place (alone q) (λ b m is reads. let fall = write.falls q m b is reads in unchanged n m (omega (arith, fall, low)) (closed q m b has is reads))
      where
        by_binding : q ≢ written → (found : Option Binding) → after q ≡ found → ((b : Binding) (m : Place) → after q ≡ Some b → Reads b m → new m ≡ old m) → new q ≡ old q
        by_binding other None is more = write.kept q other is
        by_binding other (Some b) is more =
            write.settled_new q b is ∙ value-agree b new old (λ m reads. more b m is reads) ∙ sym (write.settled_old q b (write.same q b other is))

        by_place : (q ≡ written) ⊎ (q ≢ written) → ((b : Binding) (m : Place) → after q ≡ Some b → Reads b m → new m ≡ old m) → new q ≡ old q
        by_place (inl here) more = subst (λ (z : Place). new z ≡ old z) (sym here) (stays (subst P here has))
        by_place (inr other) more = by_binding other (after q) refl more

  pub others_stay : (step : Place → ℕ) (cost : ℕ) → StepsFall after written step cost → (q : Place) → q ≢ written → ¬ (step q + cost ≤ step written) → new q ≡ old q
  others_stay step cost fall q other high =
      unchanged (λ z. (z ≢ written) × (¬ (step z + cost ≤ step written)))
      (λ z m b has is reads. (
        λ same. has.1 (fall.leaves z b is (subst (λ (y : Place). Reads b y) same reads)),
        λ low. has.1 (let along = fall.along z m b is reads in omega (arith, along, low)),
      ))
      (λ has. absurd (has.0 refl)) (suc (write.left q)) q (omega arith) (other, high)

  pub nothing_follows : (new written ≡ old written) ⊎ ((q : Place) (b : Binding) → after q ≡ Some b → ¬ Reads b written) → (q : Place) → q ≢ written → new q ≡ old q
  nothing_follows (inl same) q other = unchanged (λ z. Unit {0}) (λ z m b has is reads. tt) (λ has. same) (suc (write.left q)) q (omega arith) tt
  nothing_follows (inr unread) q other =
      unchanged (λ z. z ≢ written) (λ z m b has is reads. λ same. unread z b is (subst (λ (y : Place). Reads b y) same reads)) (λ has. absurd (has refl)) (suc (write.left q)) q (omega arith) other
