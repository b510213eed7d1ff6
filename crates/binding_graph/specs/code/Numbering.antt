-- Numbered properties, in the order of their numbers: some of a longer list, each with its place there.
use Rattle.std.specs.Prelude.{◌≡◌, ℕ, ◌<◌, List, All, [], ◌∷◌, map, Option, Some}
use Rattle.binding_graph.specs.declared.place.Place.{Place}
use Rattle.binding_graph.specs.declared.numbering.Numbered.{Numbered}

abbrev pub places_of : List Numbered → List Place
places_of fs = map (λ (f : Numbered). f.place) fs

abbrev pub Above : ℕ → List Numbered → Type 0
Above n [] = Unit {0}
Above n (f ∷ fs) = (n < f.number) × Above n fs

-- each number is above the one before
abbrev pub Rises : List Numbered → Type 0
Rises [] = Unit {0}
Rises (f ∷ fs) = Above f.number fs × Rises fs

-- the numbers are those that N gives
abbrev pub AreBy : (Place → Option ℕ) → List Numbered → Type 0
AreBy N [] = Unit {0}
AreBy N (f ∷ fs) = (N f.place ≡ Some f.number) × AreBy N fs

-- both
abbrev pub IsNumbering : (Place → Option ℕ) → List Numbered → Type 0
IsNumbering N fs = Rises fs × AreBy N fs

-- these properties, each with the number that N gives it
pub record AreNumbered (N : Place → Option ℕ) (ps : List Place) (fs : List Numbered) : Type 0 where
  pub are : places_of fs ≡ ps
  pub by : All (λ (f : Numbered). N f.place ≡ Some f.number) fs
