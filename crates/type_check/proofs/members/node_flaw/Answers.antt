use Rattle.std.proofs.Common.{MatchOption, IfOk, sym, subst}
use Rattle.effect_scan.specs.declared.node.Member.{Member}
use Rattle.type_check.specs.Typed.{IsTypedMemberHere, IsInMember}
use Rattle.type_check.proofs.members.node_flaw.Goals as goal

pub returns-in-Method-2 : goal.returns-in-Method-2
returns-in-Method-2 c =
    subst
    (λ (w : Member). IfOk c.method_flaw.result (λ found.
    MatchOption found (IsTypedMemberHere c.args.meta.now c.args.node.class w) (λ flaw. (IsTypedMemberHere c.args.meta.now c.args.node.class w → ⊥) × IsInMember c.args.meta.now c.args.node.class w flaw.statement)))
    (sym c.in-Method-2.is) c.method_flaw.ensures
