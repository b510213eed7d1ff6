-- The elements of lists by their places, from 0 (docs/machine.md, "Meta-objects").
use Rattle.std.specs.Borrow.{Bor}
use Rattle.std.specs.Prelude.{◌≡◌, ℕ, ◌<◌, List, Option, Some, slice_get, MatchOption, IfSome}

-- an element with P is at this place
pub record StandsAt {X : Type 0} (P : X → Type 0) (xs : List X) (place : ℕ) : Type 0 where
  pub item : X
  pub is : slice_get xs place ≡ Some item
  pub has : P item

-- an element with P is at this place, and none before it
pub record StandsFirst {X : Type 0} (P : X → Type 0) (xs : List X) (place : ℕ) : Type 0 where
  pub at : StandsAt P xs place
  pub first : (k : ℕ) → k < place → ¬ StandsAt P xs k

-- the first element with P is this one, at this place
pub record Found {X : Type 0} (P : X → Type 0) (xs : List X) (place : ℕ) (item : X) : Type 0 where
  pub first : StandsFirst P xs place
  pub is : first.at.item ≡ item

-- no element has P but the one at this place
abbrev pub StandsOnlyAt : {X : Type 0} → (X → Type 0) → List X → ℕ → Type 0
StandsOnlyAt P xs place = (k : ℕ) → StandsAt P xs k → k ≡ place

-- no element has P
abbrev pub NoneStands : {X : Type 0} → (X → Type 0) → List X → Type 0
NoneStands P xs = (k : ℕ) → ¬ StandsAt P xs k

-- the answer is the first element with P, with its place, or `None` where there is no such element
abbrev pub IsFirst : {X : Type 0} → (X → Type 0) → List X → Option (ℕ × Bor X) → Type 0
IsFirst P xs answer = MatchOption answer (NoneStands P xs) (λ found. Found P xs found.0 found.1.now)

-- where an element is found, no other one has P
abbrev pub IsAlone : {X : Type 0} → (X → Type 0) → List X → Option (ℕ × Bor X) → Type 0
IsAlone P xs answer = IfSome answer (λ found. StandsOnlyAt P xs found.0)

-- the answer is the place of the first element with P, or `None` where there is no such element
abbrev pub IsPlace : {X : Type 0} → (X → Type 0) → List X → Option ℕ → Type 0
IsPlace P xs answer = MatchOption answer (NoneStands P xs) (λ i. StandsFirst P xs i)
