-- Walks along edges, whatever these join: `E a b` says that an edge leads from a to b (docs/certificate.md, "The maker").
use Rattle.std.specs.Prelude.{◌≡◌, ◌+◌, ◌<◌, ℕ, List, [], ◌∷◌, length, drop}
use Rattle.std.specs.List.{Contains}

-- edges lead from a along these to b, the last of them
abbrev pub LeadsBy : {X : Type 0} → (X → X → Type 0) → X → List X → X → Type 0
LeadsBy E a [] b = a ≡ b
LeadsBy E a (x ∷ xs) b = E a x × LeadsBy E x xs b

-- what a walk comes to, with what it begins at
pub record IsWalk {X : Type 0} (E : X → X → Type 0) (from to : X) (nodes : List X) : Type 0 where
  pub after : List X
  pub nodes_are : nodes ≡ from ∷ after
  pub leads : LeadsBy E from after to

-- nothing appears twice in the list
abbrev pub AreDistinct : {X : Type 0} → List X → Type 0
AreDistinct [] = Unit {0}
AreDistinct (x ∷ xs) = ¬ Contains xs x × AreDistinct xs

-- ---- paths and chains
-- a walk that comes to nothing twice
pub record IsPath {X : Type 0} (E : X → X → Type 0) (from to : X) (nodes : List X) : Type 0 where
  pub walk : IsWalk E from to nodes
  pub once : AreDistinct nodes

-- a path of so many edges
pub record IsChain {X : Type 0} (E : X → X → Type 0) (count : ℕ) (from : X) (nodes : List X) : Type 0 where
  pub to : X
  pub path : IsPath E from to nodes
  pub edges : length nodes ≡ count + 1

-- ---- cycles
-- a walk of one edge or more that comes back to where it began
pub record ComesBack {X : Type 0} (E : X → X → Type 0) (x : X) (nodes : List X) : Type 0 where
  pub walk : IsWalk E x x nodes
  pub some : 1 < length nodes

-- a walk that comes back to where it began, at its end alone, and to nothing else twice
pub record IsCycle {X : Type 0} (E : X → X → Type 0) (x : X) (nodes : List X) : Type 0 where
  pub comes_back : ComesBack E x nodes
  pub once : AreDistinct (drop 1 nodes)

-- a cycle from the first of what it comes to: `B a b` says that a doesn't come after b
pub record IsCycleFromFirst {X : Type 0} (E B : X → X → Type 0) (nodes : List X) : Type 0 where
  pub first : X
  pub cycle : IsCycle E first nodes
  pub earliest : (x : X) → Contains nodes x → B first x
