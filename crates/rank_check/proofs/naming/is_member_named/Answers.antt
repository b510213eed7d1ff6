use Rattle.std.proofs.Common.{subst, sym}
use Rattle.certificate_lang.specs.declared.certificate.MemberName.{MemberName}
use Rattle.rank_check.specs.Names.{IsMemberNamed}
use Rattle.rank_check.proofs.naming.is_member_named.Goals as goal

pub returns-in-Method-member : goal.returns-in-Method-member
returns-in-Method-member c = λ h. subst (λ (n : MemberName). IsMemberNamed c.args.meta.now c.args.class n c.args.member) (sym c.in-Method.is) (c.in-Method-member.method, c.has_sig.ensures h, c.in-Method-member.is)

pub returns-in-Property-member : goal.returns-in-Property-member
returns-in-Property-member c = λ h.
    subst (λ (n : MemberName). IsMemberNamed c.args.meta.now c.args.class n c.args.member) (sym c.in-Property.is) (c.in-Property-member.property, c.is_property_named.ensures h, c.in-Property-member.is)
