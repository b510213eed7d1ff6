-- When a certificate is valid for a program (docs/certificate.md, "The check").
use Rattle.std.specs.Prelude.{◌≡◌, ◌≢◌, ◌≤◌, ◌<◌, ℕ, List, Some, slice_get}
use Rattle.std.specs.List.{Contains}
use Rattle.meta_model.specs.declared.object.MetaMethod.{MetaMethod}
use Rattle.meta_model.specs.declared.object.Work.TheVariants.{Signal}
use Rattle.meta_model.specs.Loaded.{Loaded}
use Rattle.meta_model.specs.Members.{IsClassNamed, IsMethod}
use Rattle.effect_scan.specs.declared.node.Node.{Node}
use Rattle.effect_scan.specs.declared.node.Member.TheVariants.{Method, Destruction}
use Rattle.effect_scan.specs.Laws.{IsNode}
use Rattle.effect_scan.specs.Edges.{MayLead}
use Rattle.effect_scan.specs.Destroying.{Closure}
use Rattle.type_check.specs.Wires.{AreFitWires}
use Rattle.type_check.specs.Typed.{IsTypedProgram}
use Rattle.certificate_lang.specs.declared.certificate.SetItem.{SetItem}
use Rattle.certificate_lang.specs.declared.certificate.SetItem.TheVariants as item
use Rattle.certificate_lang.specs.declared.certificate.Line.{Line}
use Rattle.certificate_lang.specs.declared.certificate.Certificate.{Certificate}
use Rattle.rank_check.specs.declared.ranks.TheConstants.{MOST_BOUND}
use Rattle.rank_check.specs.Names.{IsNodeNamed}

-- the certificate has this line, for this node
pub record IsLineOf (p : Loaded) (certificate : Certificate) (x : Node) (line : Line) : Type 0 where
  pub stands : Contains certificate.lines line
  pub named : IsNodeNamed p line.node x

-- class d is one of those that the item stands for: the class of its name, or with `~` those of the closure of that class
abbrev pub StandsFor : Loaded → SetItem → ℕ → Type 0
StandsFor p (item.Class name) d = IsClassNamed p name d
StandsFor p (item.Closure name) d = (c : ℕ) × IsClassNamed p name c × Closure p c d

-- class d is one of those that one of the items stands for
pub record IsListed (p : Loaded) (items : List SetItem) (d : ℕ) : Type 0 where
  pub item : SetItem
  pub listed : Contains items item
  pub stands_for : StandsFor p item d

-- class d is in the line's destroy set
abbrev pub Destroys : Loaded → Line → ℕ → Type 0
Destroys p line d = IsListed p line.destroys d

-- each of the items stands for some class, so that the class of its name is there
abbrev pub AreClassesThere : Loaded → List SetItem → Type 0
AreClassesThere p items = (item : SetItem) → Contains items item → (d : ℕ) × StandsFor p item d

-- what runs when method m of class c is called is a body, which may be that of a native
pub record RunsBody (p : Loaded) (c m : ℕ) : Type 0 where
  pub method : MetaMethod
  pub is : IsMethod p c m method
  pub runs : method.work ≢ Signal

-- the node is a slot or a native
pub record HasBody (p : Loaded) (x : Node) : Type 0 where
  pub number : ℕ
  pub from : x.member ≡ Method number
  pub body : RunsBody p x.class number

-- ---- the conditions on lines

-- each node has a line
abbrev pub HasEachNode : Loaded → Certificate → Type 0
HasEachNode p certificate = (x : Node) → IsNode p x → (line : Line) × IsLineOf p certificate x line

-- each line is for a node, none is for the node of another one, and the classes in sets are there
pub record HasNothingElse (p : Loaded) (certificate : Certificate) : Type 0 where
  pub nodes : (line : Line) → Contains certificate.lines line → (x : Node) × IsNodeNamed p line.node x
  pub once : (j k : ℕ) (a b : Line) (x : Node) → slice_get certificate.lines j ≡ Some a → slice_get certificate.lines k ≡ Some b
      → IsNodeNamed p a.node x → IsNodeNamed p b.node x → j ≡ k
  pub classes : (line : Line) → Contains certificate.lines line → AreClassesThere p line.destroys

-- ---- the conditions on ranks and sets

-- the rank falls along each edge
abbrev pub RanksFall : Loaded → Certificate → Type 0
RanksFall p certificate =
    (x y : Node) (a b : Line) → MayLead p x y → IsLineOf p certificate x a → IsLineOf p certificate y b → b.rank < a.rank

-- A node's set holds the set of each node that it may lead to, and that of `~C` the closure of C. That of a slot or
-- native of C doesn't hold C, so no object is destroyed while a body of its own runs.
pub record SetsHold (p : Loaded) (certificate : Certificate) : Type 0 where
  pub passed_on : (x y : Node) (a b : Line) (d : ℕ) → MayLead p x y → IsLineOf p certificate x a → IsLineOf p certificate y b
      → Destroys p b d → Destroys p a d
  pub closures : (x : Node) (line : Line) (d : ℕ) → x.member ≡ Destruction → IsLineOf p certificate x line
      → Closure p x.class d → Destroys p line d
  pub spared : (x : Node) (line : Line) → HasBody p x → IsLineOf p certificate x line → ¬ Destroys p line x.class

-- the greatest bound
abbrev pub most_bound : ℕ
most_bound = MOST_BOUND

-- ranks are below the bound, which isn't too great
pub record IsBounded (certificate : Certificate) : Type 0 where
  pub ranks : (line : Line) → Contains certificate.lines line → line.rank < certificate.bound
  pub bound : certificate.bound ≤ most_bound

-- ---- the certificate
-- The program's wires fit and its parts are typed; the certificate has a line for each node and nothing else; ranks fall,
-- sets hold what they have to, and the bound is above the ranks.
pub record IsValid (p : Loaded) (certificate : Certificate) : Type 0 where
  pub wires : AreFitWires p
  pub typed : IsTypedProgram p
  pub each_node : HasEachNode p certificate
  pub nothing_else : HasNothingElse p certificate
  pub ranks : RanksFall p certificate
  pub sets : SetsHold p certificate
  pub bounded : IsBounded certificate
