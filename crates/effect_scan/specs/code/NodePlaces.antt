-- Where the members of classes stand among the nodes.
use Rattle.std.specs.Prelude.{◌≡◌, ◌↔◌, ℕ, ◌<◌, List, length, Some, slice_get}
use Rattle.std.specs.List.{Contains}
use Rattle.std.specs.List.Sorted.{IsStrictlyIncreasing}
use Rattle.meta_model.specs.declared.site.SourceProperty.{SourceProperty}
use Rattle.meta_model.specs.Loaded.{Loaded}
use Rattle.meta_model.specs.Members.{Below}
use Rattle.effect_scan.specs.declared.node.Node.{Node}
use Rattle.effect_scan.specs.declared.node.Member.{Member}
use Rattle.effect_scan.specs.declared.node.Member.TheVariants.{Property}
use Rattle.effect_scan.specs.declared.effect.Reach.{Reach}
use Rattle.effect_scan.specs.declared.effect.Reach.TheVariants as reach
use Rattle.effect_scan.specs.declared.effect.Effect.{Effect}
use Rattle.effect_scan.specs.declared.places.NodePlaces.{NodePlaces}
use Rattle.effect_scan.specs.Nodes.{node, nodes_of, IsAt}
use Rattle.effect_scan.specs.Rows.{row, Edge}

-- just the numbers with P that are below the end, in their order
pub record Lists (P : ℕ → Type 0) (end : ℕ) (list : List ℕ) : Type 0 where
  pub members : (n : ℕ) → Contains list n ↔ ((n < end) × P n)
  pub increasing : IsStrictlyIncreasing list

-- for each class those that are it or below it
pub record IsLineage (p : Loaded) (lineage : List (List ℕ)) : Type 0 where
  pub count : length lineage ≡ length p.classes
  pub members : (c d : ℕ) → Edge lineage c d ↔ Below p d c

-- just the numbers with P
abbrev pub AreJust : (ℕ → Type 0) → List ℕ → Type 0
AreJust P list = (n : ℕ) → Contains list n ↔ P n

-- the number of this member in one of the classes
abbrev pub InEach : List Node → List ℕ → Member → ℕ → Type 0
InEach nodes classes member n = (d : ℕ) × Contains classes d × IsAt nodes (node d member) n

-- the number of this member in the class or one below it
abbrev pub InBelow : NodePlaces → ℕ → Member → ℕ → Type 0
InBelow places c member n = InEach places.numbering (row places.lineage c) member n

abbrev pub ReachedBy : NodePlaces → ℕ → Member → Reach → ℕ → Type 0
ReachedBy places c member reach.Own n = IsAt places.numbering (node c member) n
ReachedBy places c member (reach.Below k) n = InBelow places k member n

-- the number of the effect's member in a class whose objects the effect reaches from one of class c
abbrev pub IsReached : NodePlaces → ℕ → Effect → ℕ → Type 0
IsReached places c effect n = ReachedBy places c effect.member effect.reach n

-- the places of the program's nodes
pub record ArePlaces (p : Loaded) (places : NodePlaces) : Type 0 where
  pub numbering : places.numbering ≡ nodes_of p
  pub lineage : IsLineage p places.lineage

-- the number of this property in the class of the source or one below it
abbrev pub IsRead : NodePlaces → List ℕ → SourceProperty → ℕ → Type 0
IsRead places formals source n = (class : ℕ) × (slice_get formals source.source ≡ Some class) × InBelow places class (Property source.property) n

-- the number that one of these has
abbrev pub OfSome : {X : Type 0} → (X → ℕ → Type 0) → List X → ℕ → Type 0
OfSome {X} P xs n = (x : X) × Contains xs x × P x n
