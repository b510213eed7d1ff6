use Rattle.std.proofs.Common.{refl, sym}
use Rattle.type_check.proofs.Properties.{property_told}
use Rattle.type_check.proofs.members.property_flaw.Goals as goal

pub returns-then-has_type : goal.returns-then-has_type
returns-then-has_type c =
    (property_told c.args.meta.now c.args.class c.args.property _ _ _ c.in-Some.ensures.sound (sym c.in-Some.ensures.value) (sym c.in-Some-property.ensures.value) c.if-has_type.ensures).0 (cc)

pub returns : goal.returns
returns c = (
  λ h.
      let t =
      (property_told c.args.meta.now c.args.class c.args.property _ _ _ c.in-Some.ensures.sound (sym c.in-Some.ensures.value) (sym c.in-Some-property.ensures.value) c.has_type.ensures).1 h in
      cc,
  refl,
)
