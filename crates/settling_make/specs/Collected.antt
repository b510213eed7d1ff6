-- What the nodes of components give together, by numbers.
use Rattle.std.specs.Prelude.{◌≡◌, ◌≢◌, ◌<◌, ◌⊎◌, ℕ, List, length}
use Rattle.std.specs.List.{Contains}
use Rattle.effect_scan.specs.Rows.{row, Edge}
use Rattle.settling_make.specs.Components.{number_of}

-- an edge leads from node a to a node of component j, which is another one than k
pub record LeadsOut (rows : List (List ℕ)) (numbers : List ℕ) (k a j : ℕ) : Type 0 where
  pub to : ℕ
  pub edge : Edge rows a to
  pub is : number_of numbers to ≡ j
  pub other : j ≢ k

-- what a gives is added, where `P a j` says that it gives j
pub record Adds (P : ℕ → ℕ → Type 0) (a : ℕ) (before after : List ℕ) : Type 0 where
  pub kept : (j : ℕ) → Contains before j → Contains after j
  pub added : (j : ℕ) → P a j → Contains after j
  pub only : (j : ℕ) → Contains after j → Contains before j ⊎ P a j

-- just what these give
pub record IsCollected (P : ℕ → ℕ → Type 0) (members found : List ℕ) : Type 0 where
  pub given : (j : ℕ) → Contains found j → (a : ℕ) × Contains members a × P a j
  pub each : (a j : ℕ) → Contains members a → P a j → Contains found j

-- .. for each component
pub record AreCollected (P : ℕ → ℕ → ℕ → Type 0) (sets found : List (List ℕ)) : Type 0 where
  pub count : length found ≡ length sets
  pub each : (k : ℕ) → k < length sets → IsCollected (P k) (row sets k) (row found k)
