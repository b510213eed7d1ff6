use Rattle.std.proofs.Common.{length}
use Rattle.settling_texts.proofs.Members.{MembersSoFar}
use Rattle.settling_texts.proofs.syntax.members.Given as goal

abbrev pub invariant-loop-cursor : goal.invariant-loop-cursor
invariant-loop-cursor l = MembersSoFar l.fn.cursor l.members l.cursor

abbrev pub decreases-loop-cursor : goal.decreases-loop-cursor
decreases-loop-cursor l = length l.cursor
