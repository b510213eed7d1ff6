-- When a settling certificate is valid for a program (docs/settling.md, "The check").
use Rattle.std.specs.Prelude.{◌≡◌, ◌≤◌, ◌<◌, ◌+◌, ◌*◌, ℕ, Some, slice_get}
use Rattle.std.specs.List.{Contains}
use Rattle.meta_model.specs.Loaded.{Loaded}
use Rattle.effect_scan.specs.declared.node.Node.{Node}
use Rattle.effect_scan.specs.declared.node.Member.TheVariants.{Destruction}
use Rattle.effect_scan.specs.Laws.{IsNode}
use Rattle.effect_scan.specs.Edges.{MayLead}
use Rattle.effect_scan.specs.Destroying.{Closure}
use Rattle.type_check.specs.Wires.{AreFitWires}
use Rattle.type_check.specs.Typed.{IsTypedProgram}
use Rattle.certificate_lang.specs.declared.certificate.NodeName.{NodeName}
use Rattle.rank_check.specs.Names.{IsNodeNamed}
use Rattle.rank_check.specs.Valid.{IsListed, AreClassesThere, HasBody, most_bound}
use Rattle.settling.specs.Hands.{HandOn}
use Rattle.settling.specs.Settles.{Carries, IsProperty}
use Rattle.settling.specs.declared.certificate.SettlingLine.{SettlingLine}
use Rattle.settling.specs.declared.certificate.SettlingSet.{SettlingSet}
use Rattle.settling.specs.declared.certificate.SettlingCertificate.{SettlingCertificate}
use Rattle.settling.specs.Sets.{IsIn, IsMember, AreTogether, HasAtMost}

-- the certificate has this line, for this node
pub record IsLineOf (p : Loaded) (certificate : SettlingCertificate) (x : Node) (line : SettlingLine) : Type 0 where
  pub stands : Contains certificate.lines line
  pub named : IsNodeNamed p line.node x

-- class d is in the line's destroy set
abbrev pub Destroys : Loaded → SettlingLine → ℕ → Type 0
Destroys p line d = IsListed p line.destroys d

-- ---- the conditions on lines

abbrev pub HasEachNode : Loaded → SettlingCertificate → Type 0
HasEachNode p certificate = (x : Node) → IsNode p x → (line : SettlingLine) × IsLineOf p certificate x line

-- each line is for a node, none is for the node of another one, the classes in destroy sets are there; each member of a set
-- is a node, and of one set only
pub record HasNothingElse (p : Loaded) (certificate : SettlingCertificate) : Type 0 where
  pub nodes : (line : SettlingLine) → Contains certificate.lines line → (x : Node) × IsNodeNamed p line.node x
  pub once : (j k : ℕ) (a b : SettlingLine) (x : Node) → slice_get certificate.lines j ≡ Some a → slice_get certificate.lines k ≡ Some b
      → IsNodeNamed p a.node x → IsNodeNamed p b.node x → j ≡ k
  pub classes : (line : SettlingLine) → Contains certificate.lines line → AreClassesThere p line.destroys
  pub members : (set : SettlingSet) (name : NodeName) → Contains certificate.sets set → Contains set.members name → (x : Node) × IsNodeNamed p name x
  pub apart : (j k : ℕ) (x : Node) → IsIn p certificate j x → IsIn p certificate k x → j ≡ k

-- ---- the conditions on edges

-- along an edge from one node to another, which have these lines: where both are of one set, each way hands on, the step is
-- one, and the rank falls unless the second is a property; else the rank falls, and the step doesn't rise
pub record EdgesFall (p : Loaded) (certificate : SettlingCertificate) : Type 0 where
  pub within : (x y : Node) → AreTogether p certificate x y → MayLead p x y → HandOn p x y
  pub falls_within : (x y : Node) (a b : SettlingLine) → MayLead p x y → IsLineOf p certificate x a → IsLineOf p certificate y b
      → AreTogether p certificate x y → (¬ IsProperty y) → b.rank < a.rank
  pub falls : (x y : Node) (a b : SettlingLine) → MayLead p x y → IsLineOf p certificate x a → IsLineOf p certificate y b
      → (¬ AreTogether p certificate x y) → b.rank < a.rank
  pub steps : (x y : Node) (a b : SettlingLine) → MayLead p x y → IsLineOf p certificate x a → IsLineOf p certificate y b
      → b.step ≤ a.step

-- ---- the conditions on sets

-- A round of the set makes activations nest deeper by its round at most, so its ranks lie as close together, above 0. It makes
-- as many rounds as the objects have properties of it: so for each object its step is above those of what it leads to.
pub record IsRound (p : Loaded) (certificate : SettlingCertificate) (set : SettlingSet) : Type 0 where
  pub carries : (x : Node) → IsMember p set x → Carries p x
  pub above : (x : Node) (a : SettlingLine) → IsMember p set x → IsLineOf p certificate x a → 0 < a.rank
  pub close : (x y : Node) (a b : SettlingLine) → IsMember p set x → IsMember p set y → IsLineOf p certificate x a
      → IsLineOf p certificate y b → b.rank < a.rank + set.round
  pub one_step : (x y : Node) (a b : SettlingLine) → IsMember p set x → IsMember p set y → IsLineOf p certificate x a
      → IsLineOf p certificate y b → a.step ≡ b.step
  pub most : ℕ
  pub at_most : HasAtMost p set most
  pub some : 0 < set.round * most
  pub enough : (x : Node) (a : SettlingLine) → IsMember p set x → IsLineOf p certificate x a → set.round * most ≤ a.step
  pub leaves : (x y : Node) (a b : SettlingLine) → MayLead p x y → IsMember p set x → (¬ IsMember p set y)
      → IsLineOf p certificate x a → IsLineOf p certificate y b → b.step + set.round * most ≤ a.step

abbrev pub AreRounds : Loaded → SettlingCertificate → Type 0
AreRounds p certificate = (set : SettlingSet) → Contains certificate.sets set → IsRound p certificate set

-- as of a certificate without steps
pub record SetsHold (p : Loaded) (certificate : SettlingCertificate) : Type 0 where
  pub passed_on : (x y : Node) (a b : SettlingLine) (d : ℕ) → MayLead p x y → IsLineOf p certificate x a → IsLineOf p certificate y b
      → Destroys p b d → Destroys p a d
  pub closures : (x : Node) (line : SettlingLine) (d : ℕ) → x.member ≡ Destruction → IsLineOf p certificate x line
      → Closure p x.class d → Destroys p line d
  pub spared : (x : Node) (line : SettlingLine) → HasBody p x → IsLineOf p certificate x line → ¬ Destroys p line x.class

-- ranks are below the bound, which isn't too great, and no step is above the certificate's
pub record IsBounded (certificate : SettlingCertificate) : Type 0 where
  pub ranks : (line : SettlingLine) → Contains certificate.lines line → line.rank < certificate.bound
  pub steps : (line : SettlingLine) → Contains certificate.lines line → line.step ≤ certificate.step
  pub bound : certificate.bound ≤ most_bound

-- ---- the certificate
pub record IsValid (p : Loaded) (certificate : SettlingCertificate) : Type 0 where
  pub wires : AreFitWires p
  pub typed : IsTypedProgram p
  pub each_node : HasEachNode p certificate
  pub nothing_else : HasNothingElse p certificate
  pub edges : EdgesFall p certificate
  pub rounds : AreRounds p certificate
  pub sets : SetsHold p certificate
  pub bounded : IsBounded certificate
