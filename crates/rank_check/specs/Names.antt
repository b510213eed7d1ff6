-- The nodes that a certificate names (docs/certificate.md, "The certificate").
use Rattle.std.specs.Prelude.{◌≡◌, ℕ}
use Rattle.meta_model.specs.Loaded.{Loaded}
use Rattle.meta_model.specs.Members.{IsClassNamed, HasSig, IsPropertyNamed}
use Rattle.effect_scan.specs.declared.node.Node.{Node}
use Rattle.effect_scan.specs.declared.node.Member.{Member}
use Rattle.effect_scan.specs.declared.node.Member.TheVariants as member
use Rattle.effect_scan.specs.Laws.{IsNode}
use Rattle.certificate_lang.specs.declared.certificate.MemberName.{MemberName}
use Rattle.certificate_lang.specs.declared.certificate.MemberName.TheVariants.{Method, Property, Destruction}
use Rattle.certificate_lang.specs.declared.certificate.NodeName.{NodeName}

-- the name is that of this member of class c
abbrev pub IsMemberNamed : Loaded → ℕ → MemberName → Member → Type 0
IsMemberNamed p c (Method sig) found = (m : ℕ) × HasSig p c sig m × (found ≡ member.Method m)
IsMemberNamed p c (Property name) found = (q : ℕ) × IsPropertyNamed p c name q × (found ≡ member.Property q)
IsMemberNamed p c Destruction found = found ≡ member.Destruction

-- the name is that of this member of this class
pub record IsMemberOf (p : Loaded) (name : NodeName) (x : Node) : Type 0 where
  pub class : IsClassNamed p name.class x.class
  pub member : IsMemberNamed p x.class name.member x.member

-- the name is that of this node of the program: `C.destroyed()` names none
pub record IsNodeNamed (p : Loaded) (name : NodeName) (x : Node) : Type 0 where
  pub class : IsClassNamed p name.class x.class
  pub member : IsMemberNamed p x.class name.member x.member
  pub node : IsNode p x
