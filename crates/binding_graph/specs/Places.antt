-- Properties of objects (docs/machine.md, "Bindings").
use Rattle.std.specs.Prelude.{◌≡◌, ℕ, eqb, ◌&&◌, ◌||◌, ◌⊎◌, Bool, false, List, [], ◌∷◌}
use Rattle.binding_graph.specs.declared.place.Place.{Place}

abbrev pub property_of : ℕ → ℕ → Place
property_of o q = record { object = o; property = q }

abbrev pub same_place : Place → Place → Bool
same_place p q = eqb p.object q.object && eqb p.property q.property

abbrev pub is_in : List Place → Place → Bool
is_in [] p = false
is_in (q ∷ qs) p = same_place q p || is_in qs p

-- membership as a fact
abbrev pub In : Place → List Place → Type 0
In p [] = ⊥
In p (q ∷ qs) = (q ≡ p) ⊎ In p qs

-- each once
abbrev pub Distinct : List Place → Type 0
Distinct [] = Unit {0}
Distinct (p ∷ ps) = (In p ps → ⊥) × Distinct ps
