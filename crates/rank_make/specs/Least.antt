-- Certificates that are least, and how they are written (docs/certificate.md, "The maker").
use Rattle.std.specs.Prelude.{◌≤◌, ◌<◌, ◌⊎◌, ℕ, List}
use Rattle.std.specs.List.{Contains, AllZip}
use Rattle.std.specs.List.Sorted.{IsStrictlyIncreasing}
use Rattle.meta_model.specs.Loaded.{Loaded}
use Rattle.meta_model.specs.Members.{IsClassNamed}
use Rattle.effect_scan.specs.declared.node.Node.{Node}
use Rattle.effect_scan.specs.Nodes.{nodes_of}
use Rattle.effect_scan.specs.Destroying.{Closure}
use Rattle.certificate_lang.specs.declared.certificate.SetItem.{SetItem}
use Rattle.certificate_lang.specs.declared.certificate.SetItem.TheVariants as item
use Rattle.certificate_lang.specs.declared.certificate.Line.{Line}
use Rattle.certificate_lang.specs.declared.certificate.Certificate.{Certificate}
use Rattle.rank_check.specs.Names.{IsNodeNamed}
use Rattle.rank_check.specs.Valid.{IsLineOf, IsListed, Destroys, IsValid}

-- no valid certificate has a smaller bound, a smaller rank of a node, or a set of a node without one of the classes of its set
-- here
pub record IsLeast (p : Loaded) (certificate : Certificate) : Type 0 where
  pub bound : (other : Certificate) → IsValid p other → certificate.bound ≤ other.bound
  pub ranks : (other : Certificate) → IsValid p other → (x : Node) (a b : Line) → IsLineOf p certificate x a → IsLineOf p other x b
      → a.rank ≤ b.rank
  pub sets : (other : Certificate) → IsValid p other → (x : Node) (a b : Line) (d : ℕ) → IsLineOf p certificate x a → IsLineOf p other x b
      → Destroys p a d → Destroys p b d

-- class e is in the closure of one of these that stands before it in the order of classes
pub record IsImplied (p : Loaded) (classes : List ℕ) (e : ℕ) : Type 0 where
  pub before : ℕ
  pub among : Contains classes before
  pub lower : before < e
  pub closure : Closure p before e

-- The classes E for which `~E` is written of a set, the one whose classes have P: in the order of classes, each class of the
-- set that isn't in the closure of one written before it.
pub record AreWritten (p : Loaded) (P : ℕ → Type 0) (classes : List ℕ) : Type 0 where
  pub each : (e : ℕ) → Contains classes e → P e × ¬ IsImplied p classes e
  pub all : (e : ℕ) → P e → Contains classes e ⊎ IsImplied p classes e
  pub increasing : IsStrictlyIncreasing classes

-- the item is `~E` for class e
abbrev pub IsClosureOf : Loaded → SetItem → ℕ → Type 0
IsClosureOf p (item.Class name) e = ⊥
IsClosureOf p (item.Closure name) e = IsClassNamed p name e

-- the items are what is written of the set that they stand for
pub record AreInOrder (p : Loaded) (items : List SetItem) : Type 0 where
  pub classes : List ℕ
  pub closures : AllZip (IsClosureOf p) items classes
  pub written : AreWritten p (IsListed p items) classes

-- the lines are those of the nodes in their order, each with the items that are written of its set
pub record IsInOrder (p : Loaded) (certificate : Certificate) : Type 0 where
  pub nodes : AllZip (λ x (line : Line). IsNodeNamed p line.node x) (nodes_of p) certificate.lines
  pub sets : (line : Line) → Contains certificate.lines line → AreInOrder p line.destroys

-- valid, least in each of its parts, and in order
pub record IsLeastValid (p : Loaded) (certificate : Certificate) : Type 0 where
  pub valid : IsValid p certificate
  pub least : IsLeast p certificate
  pub order : IsInOrder p certificate
