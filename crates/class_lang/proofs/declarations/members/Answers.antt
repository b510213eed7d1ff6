use Rattle.std.proofs.Common.{length, arith, ap}
use Rattle.std.proofs.lemmas.Result.{err_from_is_err_and}
use Rattle.class_lang.proofs.MemberLists.{members_step, members_stuck, members_done}
use Rattle.class_lang.proofs.declarations.members.Goals as goal

pub returns-in_err-member-clause-reads : goal.returns-in_err-member-clause-reads
returns-in_err-member-clause-reads c =
    let p = err_from_is_err_and c.from_residual.result c.from_residual.ensures.1 in
    let same = c.loop-cursor-test.ensures.found.0 in
    rw (p.1, p.2) (λ k. members_stuck c.loop-cursor.invariant.so_far c.loop-cursor-test.ensures.found.1 (rw same at (c.in_err-member.ensures.reads k)))

pub loop-cursor-preserved : goal.loop-cursor-preserved
loop-cursor-preserved c =
    let same = c.loop-cursor-test.ensures.found.0 in
    record {
      so_far = rw c.in_ok-add_member.ensures (members_step c.loop-cursor.invariant.so_far c.loop-cursor-test.ensures.found.1 (rw same at c.in_ok-member.ensures.reads));
      no_longer = omega (arith, ap length same, c.in_ok-member.ensures.shorter);
    }

pub returns-clause-reads : goal.returns-clause-reads
returns-clause-reads c = members_done c.loop-cursor.invariant.so_far c.loop-cursor-test.ensures.found
