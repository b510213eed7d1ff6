-- The sets of a settling certificate (docs/settling.md, "The certificate").
use Rattle.std.specs.Prelude.{◌≡◌, ◌≤◌, ℕ, List, length, Some, slice_get}
use Rattle.std.specs.List.{Contains}
use Rattle.meta_model.specs.Loaded.{Loaded}
use Rattle.meta_model.specs.Sound.{AreOnce}
use Rattle.effect_scan.specs.declared.node.Member.TheVariants.{Property}
use Rattle.effect_scan.specs.declared.node.Node.{Node}
use Rattle.effect_scan.specs.Nodes.{node}
use Rattle.certificate_lang.specs.declared.certificate.NodeName.{NodeName}
use Rattle.rank_check.specs.Names.{IsNodeNamed}
use Rattle.settling.specs.declared.certificate.SettlingSet.{SettlingSet}
use Rattle.settling.specs.declared.certificate.SettlingCertificate.{SettlingCertificate}

-- the node is one of the set
pub record IsMember (p : Loaded) (set : SettlingSet) (x : Node) : Type 0 where
  pub name : NodeName
  pub among : Contains set.members name
  pub named : IsNodeNamed p name x

-- it is one of the set at this place
pub record IsIn (p : Loaded) (certificate : SettlingCertificate) (k : ℕ) (x : Node) : Type 0 where
  pub set : SettlingSet
  pub stands : slice_get certificate.sets k ≡ Some set
  pub member : IsMember p set x

-- both are of one set
abbrev pub AreTogether : Loaded → SettlingCertificate → Node → Node → Type 0
AreTogether p certificate x y = (k : ℕ) × IsIn p certificate k x × IsIn p certificate k y

-- these are properties of class c, each once, and all are of the set
pub record ArePropertiesOf (p : Loaded) (set : SettlingSet) (c : ℕ) (properties : List ℕ) : Type 0 where
  pub each : (q : ℕ) → Contains properties q → IsMember p set (node c (Property q))
  pub once : AreOnce properties

-- no class has more properties of the set than so many
abbrev pub HasAtMost : Loaded → SettlingSet → ℕ → Type 0
HasAtMost p set most = (c : ℕ) (properties : List ℕ) → ArePropertiesOf p set c properties → length properties ≤ most
