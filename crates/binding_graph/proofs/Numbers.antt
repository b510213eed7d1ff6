-- Numbers of properties.
use Rattle.std.proofs.Common.{◌≡◌, ℕ, zero, suc, ◌≤◌, List, [], ◌∷◌, length, take, Option, Some, refl, ap, arith}
use Rattle.binding_graph.specs.declared.place.Place.{Place}
use Rattle.binding_graph.specs.declared.numbering.Numbered.{Numbered}

-- no two properties have one number
abbrev pub IsOneToOne : (Place → Option ℕ) → Type 0
IsOneToOne N = (p q : Place) (i : ℕ) → N p ≡ Some i → N q ≡ Some i → p ≡ q

pub taken-all : (fs : List Numbered) (i : ℕ) → length fs ≤ i → take i fs ≡ fs
taken-all [] zero past = refl
taken-all [] (suc i) past = refl
taken-all (f ∷ fs) zero past = absurd (omega (arith, past))
taken-all (f ∷ fs) (suc i) past = let less : length fs ≤ i = omega (arith, past) in ap (λ (gs : List Numbered). f ∷ gs) (taken-all fs i less)
