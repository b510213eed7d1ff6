use Rattle.std.proofs.Common.{length, arith, ap}
use Rattle.std.proofs.lemmas.Result.{err_from_is_err_and}
use Rattle.slot_lang.proofs.Sets.{no_first_set, sets_start, sets_step, sets_done, sets_stuck}
use Rattle.slot_lang.proofs.update_group.sets.Goals as goal

pub returns-in_err-first-clause-reads : goal.returns-in_err-first-clause-reads
returns-in_err-first-clause-reads c =
    let p = err_from_is_err_and c.from_residual.result c.from_residual.ensures.1 in
    rw (p.1, p.2) (λ k. no_first_set (c.in_err-first.ensures.reads k))

pub loop-cursor-init : goal.loop-cursor-init
loop-cursor-init c = record {
  so_far = rw (c.in_ok-push.ensures.ok, c.new-sets.ensures) (sets_start c.in_ok-first.ensures.reads);
  shorter = c.in_ok-first.ensures.shorter;
}

pub returns-in_err-next-clause-reads : goal.returns-in_err-next-clause-reads
returns-in_err-next-clause-reads c =
    let p = err_from_is_err_and c.from_residual-in_err-next.result c.from_residual-in_err-next.ensures.1 in
    let same = c.loop-cursor-test.ensures.found.0 in
    rw (p.1, p.2) (λ k. sets_stuck c.loop-cursor.invariant.so_far c.loop-cursor-test.ensures.found.1 (rw same at (c.in_err-next.ensures.reads k)))

pub loop-cursor-preserved : goal.loop-cursor-preserved
loop-cursor-preserved c =
    let same = c.loop-cursor-test.ensures.found.0 in
    record {
      so_far = rw c.in_ok-push-2.ensures.ok (sets_step c.loop-cursor.invariant.so_far c.loop-cursor-test.ensures.found.1 (rw same at c.in_ok-next.ensures.reads));
      shorter = omega (arith, ap length same, c.in_ok-next.ensures.shorter);
    }

pub returns-clause-reads : goal.returns-clause-reads
returns-clause-reads c = sets_done c.loop-cursor.invariant.so_far c.loop-cursor-test.ensures.found
