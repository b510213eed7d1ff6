-- Which settling certificates the one that is made is compared with, and how (docs/settling.md, "The maker").
use Rattle.std.specs.Prelude.{◌≤◌, List, Result, Ok, Err}
use Rattle.meta_model.specs.Loaded.{Loaded}
use Rattle.effect_scan.specs.declared.node.Node.{Node}
use Rattle.effect_scan.specs.Edges.{MayLead}
use Rattle.rank_graph.specs.Walks.{LeadsBy}
use Rattle.settling.specs.declared.certificate.SettlingLine.{SettlingLine}
use Rattle.settling.specs.declared.certificate.SettlingCertificate.{SettlingCertificate}
use Rattle.settling.specs.Sets.{AreTogether}
use Rattle.settling.specs.Valid.{IsLineOf, IsValid}
use Rattle.settling_make.specs.declared.why.Why.{Why}

-- edges lead from x to y, one at least
pub record LeadsOn (p : Loaded) (x y : Node) : Type 0 where
  pub next : Node
  pub leads : MayLead p x next
  pub along : List Node
  pub rest : LeadsBy (MayLead p) next along y

-- its sets are the nodes that all lead to one another
pub record HasCircles (p : Loaded) (certificate : SettlingCertificate) : Type 0 where
  pub round : (x y : Node) → LeadsOn p x y → LeadsOn p y x → AreTogether p certificate x y
  pub only : (x y : Node) → AreTogether p certificate x y → LeadsOn p x y × LeadsOn p y x

-- no step is higher than here
abbrev pub HasNoHigher : Loaded → SettlingCertificate → SettlingCertificate → Type 0
HasNoHigher p certificate other =
    (x : Node) (a b : SettlingLine) → IsLineOf p certificate x a → IsLineOf p other x b → b.step ≤ a.step

-- No other valid one with such sets has a lower step; and none whose steps are no higher has a lower rank or bound.
pub record IsLeast (p : Loaded) (certificate : SettlingCertificate) : Type 0 where
  pub circles : HasCircles p certificate
  pub steps : (other : SettlingCertificate) → IsValid p other → HasCircles p other → (x : Node) (a b : SettlingLine)
      → IsLineOf p certificate x a → IsLineOf p other x b → a.step ≤ b.step
  pub step : (other : SettlingCertificate) → IsValid p other → HasCircles p other → certificate.step ≤ other.step
  pub ranks : (other : SettlingCertificate) → IsValid p other → HasCircles p other → HasNoHigher p certificate other
      → (x : Node) (a b : SettlingLine) → IsLineOf p certificate x a → IsLineOf p other x b → a.rank ≤ b.rank
  pub bound : (other : SettlingCertificate) → IsValid p other → HasCircles p other → HasNoHigher p certificate other
      → certificate.bound ≤ other.bound

-- a certificate that is made is so
abbrev pub MakesLeast : Loaded → Result SettlingCertificate Why → Type 0
MakesLeast p (Ok certificate) = IsLeast p certificate
MakesLeast p (Err why) = Unit {0}
