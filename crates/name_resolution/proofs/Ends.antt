-- The ends of wires.
use Rattle.std.proofs.Common.{◌≡◌, ℕ, List, sym, subst}
use Rattle.class_outlines.specs.declared.outline.Heading.{Heading}
use Rattle.class_outlines.specs.declared.outline.Outline.{Outline}
use Rattle.name_indexes.specs.Places.{StandsAt, StandsFirst, Found}
use Rattle.class_outlines.specs.Ends.{IsEnd}
use Rattle.class_outlines.proofs.Searches.{same_first}
use Rattle.class_outlines.proofs.Firsts.{first_item, found_item}

module _ (P : Heading → Type 0) (outlines : List Outline) (name : List ℕ) where
  pub an_end : (c m : ℕ) (o : Outline) → Found (λ (o : Outline). o.name ≡ name) outlines c o → StandsFirst P o.methods m → IsEnd P outlines name c m
  an_end c m o found at = record { class = found.first; method = subst (λ (x : Outline). StandsFirst P x.methods m) (sym found.is) at }

  pub no_class_end : ((k : ℕ) → ¬ StandsAt (λ (o : Outline). o.name ≡ name) outlines k) → (c m : ℕ) → ¬ IsEnd P outlines name c m
  no_class_end none c m end = none c end.class.at

  pub no_end : (d : ℕ) (o : Outline) → Found (λ (o : Outline). o.name ≡ name) outlines d o → ((k : ℕ) → ¬ StandsAt P o.methods k) → (c m : ℕ) → ¬ IsEnd P outlines name c m
  no_end d o found none c m end =
      none m (subst (λ (x : Outline). StandsAt P x.methods m) (found_item (λ (o : Outline). o.name ≡ name) outlines c d o end.class found) end.method.at)

  pub one_end : (c m d n : ℕ) → IsEnd P outlines name c m → IsEnd P outlines name d n → (c ≡ d) × (m ≡ n)
  one_end c m d n h k = (
    same_first _ outlines c d h.class k.class,
    same_first P h.class.at.item.methods m n h.method
        (subst (λ (x : Outline). StandsFirst P x.methods n) (sym (first_item (λ (o : Outline). o.name ≡ name) outlines c d h.class k.class)) k.method),
  )
