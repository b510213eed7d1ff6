-- Edges that are gathered by lists, which nodes have in common with others.
use Rattle.std.specs.Prelude.{◌≡◌, ◌⊎◌, ℕ, ◌<◌, ◌≤◌, List, [], ◌∷◌, ◌++◌, length, Some, slice_get, slice_set}
use Rattle.effect_scan.specs.Rows.{row, Edge}
use Rattle.effect_scan.specs.code.Adding.{IsOrdered}

-- the numbers of the lists of these numbers
abbrev pub spread : List (List ℕ) → List ℕ → List ℕ
spread lists [] = []
spread lists (k ∷ ks) = row lists k ++ spread lists ks

-- for each node its own numbers, and those of the lists that are named for it
abbrev pub gathered : List (List ℕ) → List (List ℕ) → List (List ℕ) → List (List ℕ)
gathered lists [] named = []
gathered lists (r ∷ own) [] = r ∷ gathered lists own []
gathered lists (r ∷ own) (ks ∷ named) = (r ++ spread lists ks) ∷ gathered lists own named

-- for each node the lists that are named are there
pub record AreNamed (lists own named : List (List ℕ)) : Type 0 where
  pub count : length named ≡ length own
  pub inside : (a k : ℕ) → Edge named a k → k < length lists

-- the lists before are there yet, and this number has the list
pub record HasList (before after : List (List ℕ)) (list : List ℕ) (n : ℕ) : Type 0 where
  pub inside : n < length after
  pub is : row after n ≡ list
  pub more : length before ≤ length after
  pub kept : (k : ℕ) → k < length before → row after k ≡ row before k

-- a node that doesn't stand behind this one, and has the same numbers and lists
pub record IsTwin (own named : List (List ℕ)) (a twin : ℕ) : Type 0 where
  pub before : twin ≤ a
  pub same_own : row own twin ≡ row own a
  pub same_lists : row named twin ≡ row named a

-- such a node for each one
pub record AreTwins (own named : List (List ℕ)) (twins : List ℕ) : Type 0 where
  pub count : length twins ≡ length own
  pub each : (a twin : ℕ) → slice_get twins a ≡ Some twin → IsTwin own named a twin

-- the node has the row of its twin, where this stands before it, or else its numbers and those of its lists in order
pub record IsSettled (lists named : List (List ℕ)) (a twin : ℕ) (before after : List (List ℕ)) : Type 0 where
  pub new : List ℕ
  pub set : after ≡ slice_set before a new
  pub is : ((twin < a) × (new ≡ row before twin)) ⊎ ((a ≤ twin) × IsOrdered (row before a ++ spread lists (row named a)) new)
