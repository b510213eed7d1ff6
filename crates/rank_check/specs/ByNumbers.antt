-- The conditions on ranks and sets, by the numbers of nodes.
use Rattle.std.specs.Prelude.{◌≡◌, ◌<◌, ◌≤◌, ℕ, Bool, List, Some, slice_get}
use Rattle.std.specs.List.{Contains}
use Rattle.meta_model.specs.Loaded.{Loaded}
use Rattle.effect_scan.specs.declared.node.Node.{Node}
use Rattle.effect_scan.specs.declared.node.Member.TheVariants.{Destruction}
use Rattle.effect_scan.specs.Rows.{row, Edge}
use Rattle.effect_scan.specs.Destroying.{Closure}
use Rattle.class_sets.specs.Marks.{IsMarked, IsWithin}
use Rattle.rank_check.specs.declared.causes.NodeLine.{NodeLine}
use Rattle.rank_check.specs.declared.causes.Rise.{Rise}
use Rattle.rank_check.specs.declared.causes.Mistake.{Mistake}
use Rattle.rank_check.specs.declared.causes.Mistake.TheVariants.{Unclosed, Own, Lost}
use Rattle.rank_check.specs.declared.entries.NodeClaim.{NodeClaim}
use Rattle.rank_check.specs.Valid.{HasBody}

-- the place is that of the node with this entry
pub record IsPlaceOf (entries : List NodeClaim) (place : NodeLine) (entry : NodeClaim) : Type 0 where
  pub stands : slice_get entries place.node ≡ Some entry
  pub line : entry.line ≡ place.line

-- ---- ranks

-- each of these nodes has a rank below this one
abbrev pub AreLower : List ℕ → List NodeClaim → ℕ → Type 0
AreLower targets entries rank = (b : ℕ) (y : NodeClaim) → Contains targets b → slice_get entries b ≡ Some y → y.rank < rank

-- the node at this place is one of these, and its rank is not below this one
pub record IsAsHigh (targets : List ℕ) (entries : List NodeClaim) (rank : ℕ) (place : NodeLine) : Type 0 where
  pub held : Contains targets place.node
  pub entry : NodeClaim
  pub is : IsPlaceOf entries place entry
  pub high : rank ≤ entry.rank

-- ranks fall along edges
abbrev pub Fall : List (List ℕ) → List NodeClaim → Type 0
Fall rows entries =
    (a b : ℕ) (x y : NodeClaim) → slice_get entries a ≡ Some x → Edge rows a b → slice_get entries b ≡ Some y → y.rank < x.rank

-- they fall along those of the nodes before this one
abbrev pub FallFirst : List (List ℕ) → List NodeClaim → ℕ → Type 0
FallFirst rows entries end = (a : ℕ) → a < end → (x : NodeClaim) → slice_get entries a ≡ Some x → AreLower (row rows a) entries x.rank

-- ranks don't fall along this edge
pub record IsRiseIn (rows : List (List ℕ)) (entries : List NodeClaim) (rise : Rise) : Type 0 where
  pub edge : Edge rows rise.from.node rise.to.node
  pub upper : NodeClaim
  pub upper_is : IsPlaceOf entries rise.from upper
  pub lower : NodeClaim
  pub lower_is : IsPlaceOf entries rise.to lower
  pub rises : upper.rank ≤ lower.rank

-- ---- sets

-- the sets of these nodes are within this one
abbrev pub AreWithin : List ℕ → List NodeClaim → List Bool → Type 0
AreWithin targets entries set = (b : ℕ) (y : NodeClaim) → Contains targets b → slice_get entries b ≡ Some y → IsWithin y.destroys set

-- the sets of the nodes that those before this one may lead to are within theirs
abbrev pub PassFirst : List (List ℕ) → List NodeClaim → ℕ → Type 0
PassFirst rows entries end = (a : ℕ) → a < end → (x : NodeClaim) → slice_get entries a ≡ Some x → AreWithin (row rows a) entries x.destroys

-- the set of the node at this place, which is one of these, has a class that isn't in this one
pub record HasLost (targets : List ℕ) (entries : List NodeClaim) (set : List Bool) (place : NodeLine) (d : ℕ) : Type 0 where
  pub held : Contains targets place.node
  pub entry : NodeClaim
  pub is : IsPlaceOf entries place entry
  pub holds : IsMarked entry.destroys d
  pub lacks : ¬ IsMarked set d

-- the set holds what that of the node has to, whatever it may lead to
pub record HoldsOwn (p : Loaded) (x : Node) (set : List Bool) : Type 0 where
  pub closure : x.member ≡ Destruction → (d : ℕ) → Closure p x.class d → IsMarked set d
  pub spared : HasBody p x → ¬ IsMarked set x.class

-- the set of the node at this place has this mistake in what it has to hold by itself
abbrev pub IsOwnMistake : Loaded → Node → List Bool → NodeLine → Mistake → Type 0
IsOwnMistake p x set place (Unclosed at d) = (at ≡ place) × (x.member ≡ Destruction) × Closure p x.class d × ¬ IsMarked set d
IsOwnMistake p x set place (Own at) = (at ≡ place) × HasBody p x × IsMarked set x.class
IsOwnMistake p x set place (Lost first second d) = ⊥

-- all sets hold what they have to by themselves, and are passed on along edges
pub record Hold (p : Loaded) (nodes : List Node) (rows : List (List ℕ)) (entries : List NodeClaim) : Type 0 where
  pub passed_on : (a b : ℕ) (x y : NodeClaim) → slice_get entries a ≡ Some x → Edge rows a b → slice_get entries b ≡ Some y
      → IsWithin y.destroys x.destroys
  pub own : (a : ℕ) (x : Node) (e : NodeClaim) → slice_get nodes a ≡ Some x → slice_get entries a ≡ Some e → HoldsOwn p x e.destroys

-- the set of one node has this mistake in what it has to hold by itself
pub record IsMistakeOfOne (p : Loaded) (nodes : List Node) (entries : List NodeClaim) (mistake : Mistake) : Type 0 where
  pub place : NodeLine
  pub node : Node
  pub stands : slice_get nodes place.node ≡ Some node
  pub entry : NodeClaim
  pub is : IsPlaceOf entries place entry
  pub wrong : IsOwnMistake p node entry.destroys place mistake

-- a class isn't passed on along the edge from the first place to the second
pub record IsLostAlong (rows : List (List ℕ)) (entries : List NodeClaim) (first second : NodeLine) (d : ℕ) : Type 0 where
  pub edge : Edge rows first.node second.node
  pub upper : NodeClaim
  pub upper_is : IsPlaceOf entries first upper
  pub lower : NodeClaim
  pub lower_is : IsPlaceOf entries second lower
  pub holds : IsMarked lower.destroys d
  pub lacks : ¬ IsMarked upper.destroys d

abbrev pub IsMistakeIn : Loaded → List Node → List (List ℕ) → List NodeClaim → Mistake → Type 0
IsMistakeIn p nodes rows entries (Unclosed place d) = IsMistakeOfOne p nodes entries (Unclosed place d)
IsMistakeIn p nodes rows entries (Own place) = IsMistakeOfOne p nodes entries (Own place)
IsMistakeIn p nodes rows entries (Lost first second d) = IsLostAlong rows entries first second d
