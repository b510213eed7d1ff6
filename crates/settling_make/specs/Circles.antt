-- What stands against a settling certificate (docs/settling.md, "Sets that settle").
use Rattle.std.specs.Prelude.{◌≡◌, ◌↔◌, ◌≤◌, ℕ, Bool, true, List, length}
use Rattle.std.specs.List.{Contains}
use Rattle.meta_model.specs.Loaded.{Loaded}
use Rattle.effect_scan.specs.declared.node.Node.{Node}
use Rattle.effect_scan.specs.declared.node.Member.TheVariants.{Destruction}
use Rattle.effect_scan.specs.Nodes.{nodes_of, IsAt}
use Rattle.effect_scan.specs.Edges.{MayLead}
use Rattle.effect_scan.specs.Destroying.{Closure}
use Rattle.rank_check.specs.Valid.{HasBody}
use Rattle.rank_graph.specs.Walks.{LeadsBy, ComesBack}
use Rattle.settling.specs.declared.certificate.SettlingCertificate.{SettlingCertificate}
use Rattle.settling.specs.Hands.{HandOn}
use Rattle.settling.specs.Settles.{Carries, IsProperty}
use Rattle.settling.specs.Valid.{IsValid}
use Rattle.settling_make.specs.declared.circles.Circle.{Circle}
use Rattle.settling_make.specs.declared.circles.Circle.TheVariants.{NoValue, OtherValue, NoProperty}
use Rattle.settling_make.specs.Components.{number_of}

abbrev pub NoneIsValid : Loaded → Type 0
NoneIsValid p = (certificate : SettlingCertificate) → ¬ IsValid p certificate

-- an edge leads from x to y, and edges lead from y back to x
pub record LeadsRound (p : Loaded) (x y : Node) : Type 0 where
  pub leads : MayLead p x y
  pub along : List Node
  pub back : LeadsBy (MayLead p) y along x

-- The circle doesn't settle: one of its nodes carries no value, a way between two of them doesn't hand its value on, or none of
-- them is a property.
abbrev pub DoesNotSettle : Loaded → Circle → Type 0
DoesNotSettle p (NoValue x y) = LeadsRound p x y × ¬ Carries p x
DoesNotSettle p (OtherValue x y) = LeadsRound p x y × ¬ HandOn p x y
DoesNotSettle p (NoProperty x) = (nodes : List Node) × ComesBack (MayLead p) x nodes × ((z : Node) → Contains nodes z → ¬ IsProperty z)

-- along each edge that is a part of a circle a value is carried, and handed on
abbrev pub EdgesSettle : Loaded → Type 0
EdgesSettle p = (x y : Node) → LeadsRound p x y → Carries p x × HandOn p x y

-- an edge that is a part of a circle, and leads to no property
pub record IsSilentEdge (p : Loaded) (x y : Node) : Type 0 where
  pub round : LeadsRound p x y
  pub silent : ¬ IsProperty y

-- how many edges the longest chain of such edges from x has
pub record IsHeight (p : Loaded) (x : Node) (height : ℕ) : Type 0 where
  pub chain : (along : List Node) × (to : Node) × LeadsBy (IsSilentEdge p) x along to × (length along ≡ height)
  pub longest : (along : List Node) (to : Node) → LeadsBy (IsSilentEdge p) x along to → length along ≤ height

-- .. of each node, by its number
abbrev pub AreHeights : Loaded → (ℕ → ℕ) → Type 0
AreHeights p heights = (n : ℕ) (x : Node) → IsAt (nodes_of p) x n → IsHeight p x (heights n)

-- edges lead from a slot or native of a class C to a `~X` whose closure holds C
pub record LeadsToEnd (p : Loaded) (x : Node) : Type 0 where
  pub to : Node
  pub along : List Node
  pub leads : LeadsBy (MayLead p) x along to
  pub body : HasBody p x
  pub destruction : to.member ≡ Destruction
  pub holds : Closure p to.class x.class

-- none does
abbrev pub NoneEnds : Loaded → Type 0
NoneEnds p = (x : Node) → ¬ LeadsToEnd p x

-- an object of class d may be destroyed from x: edges lead to a `~X` whose closure has d
pub record MayDestroy (p : Loaded) (x : Node) (d : ℕ) : Type 0 where
  pub to : Node
  pub along : List Node
  pub leads : LeadsBy (MayLead p) x along to
  pub destruction : to.member ≡ Destruction
  pub holds : Closure p to.class d

-- of each component, by number, the classes of the objects that may be destroyed from its nodes
abbrev pub AreDestroyed : Loaded → List ℕ → (ℕ → ℕ → Bool) → Type 0
AreDestroyed p numbers leads =
    (n : ℕ) (x : Node) → IsAt (nodes_of p) x n → (d : ℕ) → (leads (number_of numbers n) d ≡ true) ↔ MayDestroy p x d
