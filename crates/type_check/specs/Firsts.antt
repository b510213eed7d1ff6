-- The first element of a list that isn't as all should be.
use Rattle.std.specs.Prelude.{◌≡◌, ◌<◌, ℕ, List, Option, Some, slice_get, MatchOption}

-- all elements have P
abbrev pub AllHave : {X : Type 0} → (X → Type 0) → List X → Type 0
AllHave {X} P xs = (k : ℕ) (x : X) → slice_get xs k ≡ Some x → P x

-- the element at this place lacks P, and all before it have P
pub record LacksFirst {X : Type 0} (P : X → Type 0) (xs : List X) (place : ℕ) (item : X) : Type 0 where
  pub is : slice_get xs place ≡ Some item
  pub lacks : ¬ P item
  pub before : (k : ℕ) (x : X) → k < place → slice_get xs k ≡ Some x → P x

-- the element at this place is the first that lacks P, whatever it is
pub record IsFirstWithout {X : Type 0} (P : X → Type 0) (xs : List X) (place : ℕ) : Type 0 where
  pub item : X
  pub first : LacksFirst P xs place item

-- the answer is the place of the first element without P, or `None` where all have P
abbrev pub FindsWithout : {X : Type 0} → (X → Type 0) → List X → Option ℕ → Type 0
FindsWithout P xs answer = MatchOption answer (AllHave P xs) (λ k. IsFirstWithout P xs k)
