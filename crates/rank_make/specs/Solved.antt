-- What is known of the nodes of a program by their numbers.
use Rattle.std.specs.Prelude.{◌≡◌, ◌<◌, ℕ, Bool, true, List, [], length, map, Some, slice_get}
use Rattle.std.specs.List.{AllZip}
use Rattle.meta_model.specs.declared.object.MetaMethod.{MetaMethod}
use Rattle.meta_model.specs.declared.object.MetaProperty.{MetaProperty}
use Rattle.meta_model.specs.declared.object.MetaObject.{MetaObject}
use Rattle.meta_model.specs.Loaded.{Loaded}
use Rattle.effect_scan.specs.declared.node.Node.{Node}
use Rattle.effect_scan.specs.declared.node.Member.{Member}
use Rattle.effect_scan.specs.declared.node.Member.TheVariants.{Method, Property, Destruction}
use Rattle.effect_scan.specs.Nodes.{nodes_of, IsAt}
use Rattle.effect_scan.specs.Rows.{row}
use Rattle.effect_scan.specs.Scans.{Scanned}
use Rattle.certificate_lang.specs.declared.certificate.SetItem.{SetItem}
use Rattle.certificate_lang.specs.declared.certificate.Line.{Line}
use Rattle.rank_check.specs.Names.{IsNodeNamed}
use Rattle.rank_check.specs.Valid.{HasBody, most_bound}
use Rattle.rank_graph.specs.Solutions.{AreRanks, AreClasses}
use Rattle.rank_make.specs.Least.{AreWritten, IsClosureOf}

-- ---- what a node destroys itself: with `~C` those of the closure of C, anything else nothing
abbrev pub own_by : List (List ℕ) → ℕ → Member → List ℕ
own_by closures c (Method m) = []
own_by closures c (Property q) = []
own_by closures c Destruction = row closures c

abbrev pub own_of : List (List ℕ) → Node → List ℕ
own_of closures x = own_by closures x.class x.member

-- what each node destroys itself
abbrev pub own_rows : Scanned → List (List ℕ)
own_rows scan = map (own_of scan.closures) scan.nodes

-- ---- ranks and sets
-- ranks by the longest chains, sets by where walks lead to
pub record IsSolved (scan : Scanned) (rank : ℕ → ℕ) (leads : ℕ → ℕ → Bool) : Type 0 where
  pub ranks : AreRanks scan.rows rank
  pub classes : AreClasses scan.rows (own_rows scan) leads

-- a slot or native may destroy an object of its own class
pub record EndsItself (p : Loaded) (leads : ℕ → ℕ → Bool) (n : ℕ) (x : Node) : Type 0 where
  pub at : IsAt (nodes_of p) x n
  pub body : HasBody p x
  pub leads_to : leads n x.class ≡ true

-- none of the first nodes is of a slot or native that may destroy an object of its own class
abbrev pub NoneEndsBefore : Loaded → (ℕ → ℕ → Bool) → ℕ → Type 0
NoneEndsBefore p leads end = (n : ℕ) (x : Node) → n < end → ¬ EndsItself p leads n x

-- no slot or native may destroy an object of its own class
abbrev pub NoneEnds : Loaded → (ℕ → ℕ → Bool) → Type 0
NoneEnds p leads = (n : ℕ) (x : Node) → ¬ EndsItself p leads n x

-- ranks are below the greatest bound
abbrev pub AreLow : ℕ → (ℕ → ℕ) → Type 0
AreLow count rank = (n : ℕ) → n < count → rank n < most_bound

-- ---- items of sets
-- what is written of the classes with P that are below the end
pub record AreItems (p : Loaded) (P : ℕ → Type 0) (end : ℕ) (items : List SetItem) : Type 0 where
  pub classes : List ℕ
  pub closures : AllZip (IsClosureOf p) items classes
  pub written : AreWritten p (λ e. (e < end) × P e) classes

-- the class has the member
abbrev pub HasMember : MetaObject → Member → Type 0
HasMember class (Method m) = (method : MetaMethod) × (slice_get class.methods m ≡ Some method)
HasMember class (Property q) = (property : MetaProperty) × (slice_get class.properties q ≡ Some property)
HasMember class Destruction = Unit {0}

-- ---- lines
-- the line of the node of this number
pub record IsLineFor (p : Loaded) (rank : ℕ → ℕ) (leads : ℕ → ℕ → Bool) (n : ℕ) (x : Node) (line : Line) : Type 0 where
  pub named : IsNodeNamed p line.node x
  pub ranked : line.rank ≡ rank n
  pub destroys : AreItems p (λ d. leads n d ≡ true) (length p.classes) line.destroys

-- the lines of the first nodes, in their order
pub record AreLinesTo (p : Loaded) (rank : ℕ → ℕ) (leads : ℕ → ℕ → Bool) (end : ℕ) (lines : List Line) : Type 0 where
  pub count : length lines ≡ end
  pub line : (n : ℕ) (x : Node) (line : Line) → IsAt (nodes_of p) x n → slice_get lines n ≡ Some line → IsLineFor p rank leads n x line

-- the lines of all nodes, in their order
abbrev pub AreLinesFor : Loaded → (ℕ → ℕ) → (ℕ → ℕ → Bool) → List Line → Type 0
AreLinesFor p rank leads lines = AreLinesTo p rank leads (length (nodes_of p)) lines
