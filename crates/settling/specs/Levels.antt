-- How many activations stand above one another, by their levels alone (docs/settling.md, "Why it holds").
use Rattle.std.specs.Prelude.{◌≡◌, ℕ, suc, ◌+◌, ◌*◌, ◌<◌, ◌≤◌, Bool, IsTrue, List, [], ◌∷◌, length, Option, None, Some}
use Rattle.std.specs.List.{AllByRecursion}
use Rattle.binding_graph.specs.declared.place.Place.{Place}
use Rattle.binding_graph.specs.Places.{In, Distinct}

-- the rank and the step of an activation, and the set in which it is, if it is in one
pub record Level : Type 0 where
  pub rank : ℕ
  pub step : ℕ
  pub within : Option ℕ

-- How the sets are counted: the round of each, the most properties of it that a class has, and which places are of it.
pub record Counting : Type 0 where
  pub round : ℕ → ℕ
  pub most : ℕ → ℕ
  pub is_of : ℕ → Place → Bool

-- what a set adds for each object
abbrev pub cost_of : Counting → Option ℕ → ℕ
cost_of sets None = 0
cost_of sets (Some k) = sets.round k * sets.most k

-- the places are of the object and of the set, each once
pub record AreOf (sets : Counting) (k o : ℕ) (places : List Place) : Type 0 where
  pub once : Distinct places
  pub each : AllByRecursion (λ q. (q.object ≡ o) × IsTrue (sets.is_of k q)) places

-- no object has more of them than so many
abbrev pub AreCounted : Counting → Type 0
AreCounted sets = (k o : ℕ) (places : List Place) → AreOf sets k o places → length places ≤ sets.most k

-- An activation of this level stands above so many, the lowest of which has a rank below the bound and no greater step, where
-- so many objects were made; and these places were written within its set, by those that stand in one round after another.
pub data StandsAbove (sets : Counting) (objects bound step : ℕ) : Level → ℕ → List Place → Type 0 where
  lowest : {l : Level} → l.rank < bound → l.step ≤ step → cost_of sets l.within ≤ l.step → StandsAbove sets objects bound step l 0 []
  -- not in the set of what is below it
  apart : {l u : Level} {height : ℕ} {places : List Place} → StandsAbove sets objects bound step l height places → u.rank < l.rank
      → u.step + cost_of sets l.within ≤ l.step → cost_of sets u.within ≤ u.step → StandsAbove sets objects bound step u (suc height) []
  -- in the same set
  inside : {l u : Level} {height : ℕ} {places : List Place} → StandsAbove sets objects bound step l height places → u.within ≡ l.within
      → u.step ≡ l.step → u.rank < l.rank → StandsAbove sets objects bound step u (suc height) places
  -- .. an update of another place of it
  writes : {l u : Level} {height k : ℕ} {place : Place} {places : List Place} → StandsAbove sets objects bound step l height places
      → l.within ≡ Some k → u.within ≡ Some k → u.step ≡ l.step → u.rank < l.rank + sets.round k
      → IsTrue (sets.is_of k place) → place.object < objects → ¬ In place places
      → StandsAbove sets objects bound step u (suc height) (place ∷ places)

-- so many activations are no more than the bound and the step for each object; and less by the rank of the highest
abbrev pub StacksAreShallow : Type 0
StacksAreShallow =
    (sets : Counting) (objects bound step height : ℕ) (level : Level) (places : List Place) → AreCounted sets →
    StandsAbove sets objects bound step level height places → level.rank + suc height ≤ bound + step * objects
