use Rattle.std.proofs.Common.{◌≤◌, length}
use Rattle.class_lang.proofs.MemberLists.{MembersSoFar}
use Rattle.class_lang.proofs.declarations.members.Given as goal

abbrev pub invariant-loop-cursor : goal.invariant-loop-cursor
invariant-loop-cursor l = record {
  so_far : MembersSoFar l.fn.name l.fn.base l.fn.cursor l.class l.cursor;
  no_longer : length l.cursor ≤ length l.fn.cursor;
}

abbrev pub decreases-loop-cursor : goal.decreases-loop-cursor
decreases-loop-cursor l = length l.cursor
