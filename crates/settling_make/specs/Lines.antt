-- The lines of a settling certificate that is made, by numbers.
use Rattle.std.specs.Prelude.{◌≡◌, ℕ, Bool, true, List, length, Some, slice_get}
use Rattle.meta_model.specs.Loaded.{Loaded}
use Rattle.effect_scan.specs.declared.node.Node.{Node}
use Rattle.effect_scan.specs.Nodes.{nodes_of, IsAt}
use Rattle.rank_check.specs.Names.{IsNodeNamed}
use Rattle.rank_make.specs.Solved.{AreItems}
use Rattle.settling.specs.declared.certificate.SettlingLine.{SettlingLine}
use Rattle.settling_make.specs.Components.{number_of}
use Rattle.settling_make.specs.Fits.{at_place}

-- the line of a node of component k, with this rank and step, and the classes of the objects that may be destroyed from there
pub record IsLineFor (p : Loaded) (leads : ℕ → ℕ → Bool) (k : ℕ) (x : Node) (rank step : ℕ) (line : SettlingLine) : Type 0 where
  pub named : IsNodeNamed p line.node x
  pub ranked : line.rank ≡ rank
  pub stepped : line.step ≡ step
  pub destroys : AreItems p (λ d. leads k d ≡ true) (length p.classes) line.destroys

-- the lines of the first nodes in their order, of which each component has one step
pub record AreLinesTo (p : Loaded) (numbers ranks steps : List ℕ) (leads : ℕ → ℕ → Bool) (end : ℕ) (lines : List SettlingLine) : Type 0 where
  pub count : length lines ≡ end
  pub line : (n : ℕ) (x : Node) (line : SettlingLine) → IsAt (nodes_of p) x n → slice_get lines n ≡ Some line
      → IsLineFor p leads (number_of numbers n) x (at_place ranks n) (at_place steps (number_of numbers n)) line

-- .. of all nodes
abbrev pub AreLinesFor : Loaded → List ℕ → List ℕ → List ℕ → (ℕ → ℕ → Bool) → List SettlingLine → Type 0
AreLinesFor p numbers ranks steps leads lines = AreLinesTo p numbers ranks steps leads (length (nodes_of p)) lines
