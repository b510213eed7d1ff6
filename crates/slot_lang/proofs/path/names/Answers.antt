use Rattle.std.proofs.Common.{arith}
use Rattle.std.proofs.lemmas.Result.{err_from_is_err_and}
use Rattle.slot_lang.proofs.Paths.{names_step, names_done, names_stuck}
use Rattle.slot_lang.proofs.path.names.Goals as goal

pub returns-in_err-name-clause-reads : goal.returns-in_err-name-clause-reads
returns-in_err-name-clause-reads c =
    let p = err_from_is_err_and c.from_residual.result c.from_residual.ensures.1 in
    rw (p.1, p.2) (λ k. names_stuck c.loop-cursor.invariant.so_far c.loop-cursor-test.ensures.found (c.in_err-name.ensures.reads k))

pub loop-cursor-preserved : goal.loop-cursor-preserved
loop-cursor-preserved c = record {
  so_far = rw c.in_ok-push.ensures.ok (names_step c.loop-cursor.invariant.so_far c.loop-cursor-test.ensures.found c.in_ok-name.ensures.reads);
  no_longer = omega (arith, c.loop-cursor-test.ensures.shorter, c.in_ok-name.ensures.shorter);
}

pub returns-clause-reads : goal.returns-clause-reads
returns-clause-reads c = rw c.loop-cursor-test.ensures.found.0 (names_done c.loop-cursor.invariant.so_far c.loop-cursor-test.ensures.found.1)
