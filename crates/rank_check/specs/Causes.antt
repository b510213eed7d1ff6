-- What of a program or a certificate breaks a condition (docs/certificate.md, "The check").
use Rattle.std.specs.Prelude.{◌≡◌, ◌≢◌, ◌≤◌, ◌<◌, ℕ, List, Some, slice_get}
use Rattle.meta_model.specs.Loaded.{Loaded}
use Rattle.effect_scan.specs.{declared.node.Node.{Node}, declared.node.Member.TheVariants.{Destruction}, Nodes.{nodes_of, IsAt}, Edges.{MayLead}, Destroying.{Closure}}
use Rattle.type_check.specs.{Firsts.{IsFirstWithout}, Wires.{IsFitWire}, Typed.{FindsUntyped}}
use Rattle.certificate_lang.specs.{declared.certificate.SetItem.{SetItem}, declared.certificate.Line.{Line}, declared.certificate.Certificate.{Certificate}}
use Rattle.rank_check.specs.{declared.causes.NodeLine.{NodeLine}, declared.causes.Extra.{Extra}, declared.causes.Extra.TheVariants.{Unknown, Twice, Class}, declared.causes.Rise.{Rise}, declared.causes.Mistake.{Mistake}, declared.causes.Mistake.TheVariants.{Unclosed, Own, Lost}, declared.causes.Loose.{Loose}, declared.causes.Loose.TheVariants.{TooGreat, NotAbove}, declared.causes.Cause.{Cause}, Names.{IsNodeNamed}, Valid.{IsLineOf, StandsFor, Destroys, HasBody, most_bound}}
use Rattle.rank_check.specs.declared.causes.Cause.TheVariants as cause

-- ---- lines

-- the node of this number has no line
pub record IsMissing (p : Loaded) (certificate : Certificate) (n : ℕ) : Type 0 where
  pub node : Node
  pub is : IsAt (nodes_of p) node n
  pub none : (line : Line) → ¬ IsLineOf p certificate node line

-- the line at this place is for no node
pub record IsUnknown (p : Loaded) (lines : List Line) (k : ℕ) : Type 0 where
  pub line : Line
  pub stands : slice_get lines k ≡ Some line
  pub none : (x : Node) → ¬ IsNodeNamed p line.node x

-- the lines at these two places are for one node
pub record AreTwice (p : Loaded) (lines : List Line) (j k : ℕ) : Type 0 where
  pub node : Node
  pub first : Line
  pub second : Line
  pub first_stands : slice_get lines j ≡ Some first
  pub second_stands : slice_get lines k ≡ Some second
  pub first_named : IsNodeNamed p first.node node
  pub second_named : IsNodeNamed p second.node node
  pub apart : j ≢ k

-- the item stands for no class
abbrev pub StandsForNoClass : Loaded → SetItem → Type 0
StandsForNoClass p item = (d : ℕ) → ¬ StandsFor p item d

-- the item at this place stands for no class
pub record StandsForNone (p : Loaded) (items : List SetItem) (place : ℕ) : Type 0 where
  pub item : SetItem
  pub stands : slice_get items place ≡ Some item
  pub none : StandsForNoClass p item

-- the item at this place, in the set of the line at place k, stands for no class
pub record LacksClass (p : Loaded) (lines : List Line) (k item : ℕ) : Type 0 where
  pub line : Line
  pub stands : slice_get lines k ≡ Some line
  pub none : StandsForNone p line.destroys item

abbrev pub IsExtra : Loaded → List Line → Extra → Type 0
IsExtra p lines (Unknown k) = IsUnknown p lines k
IsExtra p lines (Twice j k) = AreTwice p lines j k
IsExtra p lines (Class k item) = LacksClass p lines k item

-- ---- ranks and sets

-- this node has this line, by number and place
pub record IsAtPlace (p : Loaded) (certificate : Certificate) (place : NodeLine) (x : Node) (a : Line) : Type 0 where
  pub is : IsAt (nodes_of p) x place.node
  pub stands : slice_get certificate.lines place.line ≡ Some a
  pub named : IsNodeNamed p a.node x

-- an edge leads from the one node to the other, which have these lines
pub record IsEdgeOf (p : Loaded) (certificate : Certificate) (first second : NodeLine) (a b : Line) : Type 0 where
  pub from : Node
  pub to : Node
  pub from_is : IsAtPlace p certificate first from a
  pub to_is : IsAtPlace p certificate second to b
  pub leads : MayLead p from to

-- the rank doesn't fall along the edge
pub record IsRise (p : Loaded) (certificate : Certificate) (rise : Rise) : Type 0 where
  pub upper : Line
  pub lower : Line
  pub edge : IsEdgeOf p certificate rise.from rise.to upper lower
  pub rises : upper.rank ≤ lower.rank

-- the node is `~C`, and its set lacks this class of the closure of C
pub record IsUnclosed (p : Loaded) (certificate : Certificate) (place : NodeLine) (d : ℕ) : Type 0 where
  pub node : Node
  pub line : Line
  pub at : IsAtPlace p certificate place node line
  pub destruction : node.member ≡ Destruction
  pub closure : Closure p node.class d
  pub lacks : ¬ Destroys p line d

-- the node is a slot or native, and its set holds its own class
pub record HoldsItself (p : Loaded) (certificate : Certificate) (place : NodeLine) : Type 0 where
  pub node : Node
  pub line : Line
  pub at : IsAtPlace p certificate place node line
  pub body : HasBody p node
  pub holds : Destroys p line node.class

-- the set of the second node holds this class, and that of the first, which leads to it, lacks it
pub record IsLost (p : Loaded) (certificate : Certificate) (first second : NodeLine) (d : ℕ) : Type 0 where
  pub upper : Line
  pub lower : Line
  pub edge : IsEdgeOf p certificate first second upper lower
  pub holds : Destroys p lower d
  pub lacks : ¬ Destroys p upper d

abbrev pub IsMistake : Loaded → Certificate → Mistake → Type 0
IsMistake p certificate (Unclosed place d) = IsUnclosed p certificate place d
IsMistake p certificate (Own place) = HoldsItself p certificate place
IsMistake p certificate (Lost first second d) = IsLost p certificate first second d

-- ---- the bound

-- the rank in the line at this place isn't below the bound
pub record IsNotBelow (certificate : Certificate) (k : ℕ) : Type 0 where
  pub line : Line
  pub stands : slice_get certificate.lines k ≡ Some line
  pub high : certificate.bound ≤ line.rank

abbrev pub IsLoose : Certificate → Loose → Type 0
IsLoose certificate TooGreat = most_bound < certificate.bound
IsLoose certificate (NotAbove k) = IsNotBelow certificate k

-- ---- all causes

-- What the cause names breaks the condition of its number; running out of memory says nothing.
abbrev pub Breaks : Loaded → Certificate → Cause → Type 0
Breaks p certificate (cause.Wire place) = IsFirstWithout (IsFitWire p) p.wires place
Breaks p certificate (cause.BodyType spot) = FindsUntyped p (Some spot)
Breaks p certificate (cause.Missing n) = IsMissing p certificate n
Breaks p certificate (cause.Extra extra) = IsExtra p certificate.lines extra
Breaks p certificate (cause.Edge rise) = IsRise p certificate rise
Breaks p certificate (cause.Destroys mistake) = IsMistake p certificate mistake
Breaks p certificate (cause.Bound loose) = IsLoose certificate loose
Breaks p certificate cause.Memory = Unit {0}
