use Rattle.std.proofs.Common.{refl, false}
use Rattle.std.proofs.lemmas.Result.{err_from_is_err_and}
use Rattle.certificate_lang.proofs.Certificates.{is_not_so}
use Rattle.settling_texts.proofs.Members.{no_first, members_start, members_step, members_stuck, members_done}
use Rattle.settling_texts.proofs.syntax.members.Goals as goal

pub returns-in_err-first : goal.returns-in_err-first
returns-in_err-first c =
    let p = err_from_is_err_and c.from_residual.result c.from_residual.ensures.1 in
    rw (p.1, p.2) (λ k. no_first (c.in_err-first.ensures.reads k))

pub returns-in_err-next : goal.returns-in_err-next
returns-in_err-next c =
    let p = err_from_is_err_and c.from_residual-in_err-next.result c.from_residual-in_err-next.ensures.1 in
    rw (p.1, p.2) (λ k. members_stuck c.loop-cursor.invariant (is_not_so false refl c.loop-cursor-test.ensures) (c.in_err-next.ensures.reads k))

pub loop-cursor-init : goal.loop-cursor-init
loop-cursor-init c = rw (c.in_ok-push.ensures.ok, c.new-members.ensures) (members_start c.in_ok-first.ensures.reads)

pub loop-cursor-preserved : goal.loop-cursor-preserved
loop-cursor-preserved c = rw c.in_ok-push-2.ensures.ok (members_step c.loop-cursor.invariant c.in_ok-next.ensures.reads)

pub returns : goal.returns
returns c = members_done c.loop-cursor.invariant (c.loop-cursor-test.ensures.0 refl)
