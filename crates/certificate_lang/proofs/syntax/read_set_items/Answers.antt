use Rattle.std.proofs.Common.{refl, false}
use Rattle.std.proofs.lemmas.Result.{err_from_is_err_and}
use Rattle.certificate_lang.proofs.Items.{items_step, items_stuck, items_done}
use Rattle.certificate_lang.proofs.Certificates.{is_not_so}
use Rattle.certificate_lang.proofs.syntax.read_set_items.Goals as goal

pub returns-in_err-item : goal.returns-in_err-item
returns-in_err-item c =
    let p = err_from_is_err_and c.from_residual.result c.from_residual.ensures.1 in
    rw (p.1, p.2) (λ k. items_stuck c.args.version c.loop-version.invariant (is_not_so false refl c.loop-version-test.ensures) (c.in_err-item.ensures.reads k))

pub loop-version-preserved : goal.loop-version-preserved
loop-version-preserved c = rw c.in_ok-push.ensures.ok (items_step c.args.version c.loop-version.invariant c.in_ok-item.ensures.reads)

pub returns : goal.returns
returns c = items_done c.args.version c.loop-version.invariant (c.loop-version-test.ensures.0 refl)
