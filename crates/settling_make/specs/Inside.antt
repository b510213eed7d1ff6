-- What is known of edges inside components, by the numbers of nodes.
use Rattle.std.specs.Prelude.{◌≡◌, ◌<◌, ℕ, List, length, Some, slice_get}
use Rattle.std.specs.List.{Contains}
use Rattle.meta_model.specs.Loaded.{Loaded}
use Rattle.effect_scan.specs.declared.node.Node.{Node}
use Rattle.effect_scan.specs.Nodes.{nodes_of, IsAt}
use Rattle.effect_scan.specs.Rows.{row, Edge}
use Rattle.settling.specs.Hands.{HandOn}
use Rattle.settling.specs.Settles.{Carries, IsProperty}
use Rattle.settling_make.specs.Components.{number_of}

-- from node a, which is x, to node b: x carries its value, and hands it on, if both are of one component
abbrev pub EdgeHandsOn : Loaded → List ℕ → ℕ → Node → ℕ → Type 0
EdgeHandsOn p numbers a x b = (y : Node) → IsAt (nodes_of p) y b → number_of numbers a ≡ number_of numbers b → Carries p x × HandOn p x y

-- along each edge from node a
abbrev pub EdgesHandOn : Loaded → List (List ℕ) → List ℕ → ℕ → Node → Type 0
EdgesHandOn p rows numbers a x = (b : ℕ) → Edge rows a b → EdgeHandsOn p numbers a x b

-- .. from each of the first nodes
abbrev pub HandOnBefore : Loaded → List (List ℕ) → List ℕ → ℕ → Type 0
HandOnBefore p rows numbers end = (a : ℕ) (x : Node) → a < end → IsAt (nodes_of p) x a → EdgesHandOn p rows numbers a x

-- each edge ends at a node
abbrev pub AreEdgesInside : List (List ℕ) → List Node → Type 0
AreEdgesInside rows nodes = (a b : ℕ) → Edge rows a b → b < length nodes

-- node b is no property, and of one component with node a
pub record IsSilentEnd (nodes : List Node) (numbers : List ℕ) (a b : ℕ) : Type 0 where
  pub inside : number_of numbers a ≡ number_of numbers b
  pub silent : (y : Node) → IsAt nodes y b → ¬ IsProperty y

-- such ends of the edges from node a
pub record AreSilentEnds (nodes : List Node) (rows : List (List ℕ)) (numbers : List ℕ) (a : ℕ) (ends : List ℕ) : Type 0 where
  pub edges : (b : ℕ) → Contains ends b → Edge rows a b × IsSilentEnd nodes numbers a b
  pub each : (b : ℕ) → Edge rows a b → IsSilentEnd nodes numbers a b → Contains ends b

-- .. for each node
pub record AreSilent (nodes : List Node) (rows : List (List ℕ)) (numbers : List ℕ) (silent : List (List ℕ)) : Type 0 where
  pub count : length silent ≡ length rows
  pub ends : (a : ℕ) → a < length rows → AreSilentEnds nodes rows numbers a (row silent a)

-- each of so many numbers stands at its place
pub record AreThemselves (count : ℕ) (numbers : List ℕ) : Type 0 where
  pub counted : length numbers ≡ count
  pub each : (a b : ℕ) → slice_get numbers a ≡ Some b → b ≡ a
