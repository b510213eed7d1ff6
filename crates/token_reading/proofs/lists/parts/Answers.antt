use Rattle.std.proofs.Common.{arith}
use Rattle.std.proofs.lemmas.Result.{err_from_is_err_and}
use Rattle.token_reading.proofs.Listed.{parts_no_first, parts_start, parts_step, parts_no_next, parts_done}
use Rattle.token_reading.proofs.lists.parts.Goals as goal

pub returns-in_err-first-clause-reads : goal.returns-in_err-first-clause-reads
returns-in_err-first-clause-reads g c =
    let p = g.P.Part in
    let e = err_from_is_err_and c.from_residual.result c.from_residual.ensures.1 in
    rw (e.1, e.2) (λ k. parts_no_first p.spell p.tree p.Ends c.requires (c.in_err-first.ensures.reads k))

pub loop-cursor-init : goal.loop-cursor-init
loop-cursor-init g c =
    let p = g.P.Part in
    record {
      so_far = rw c.in_ok-parts.ensures (parts_start p.spell p.tree p.Ends c.requires c.in_ok-first.ensures.reads);
      shorter = c.in_ok-first.ensures.shorter;
    }

pub returns-in_err-part-clause-reads : goal.returns-in_err-part-clause-reads
returns-in_err-part-clause-reads g c =
    let p = g.P.Part in
    let e = err_from_is_err_and c.from_residual-in_err-part.result c.from_residual-in_err-part.ensures.1 in
    rw (e.1, e.2) (λ k. parts_no_next p.spell p.tree p.Ends c.requires c.loop-cursor.invariant.so_far c.loop-cursor-test.ensures.found (c.in_err-part.ensures.reads k))

pub loop-cursor-preserved : goal.loop-cursor-preserved
loop-cursor-preserved g c =
    let p = g.P.Part in
    record {
      so_far = rw c.in_ok-push.ensures.ok (parts_step p.spell p.tree p.Ends c.requires c.loop-cursor.invariant.so_far c.loop-cursor-test.ensures.found c.in_ok-part.ensures.reads);
      shorter = omega (arith, c.loop-cursor-test.ensures.shorter, c.in_ok-part.ensures.shorter);
    }

pub returns-clause-reads : goal.returns-clause-reads
returns-clause-reads g c =
    let p = g.P.Part in
    let same = c.loop-cursor-test.ensures.found.0 in
    rw same (parts_done p.spell p.tree p.Ends c.requires c.loop-cursor.invariant.so_far c.loop-cursor-test.ensures.found.1)
