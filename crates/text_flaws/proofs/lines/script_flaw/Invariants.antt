use Rattle.std.proofs.Common.{length, ◌+◌, ◌≤◌}
use Rattle.text_flaws.proofs.Passing.{LinesSoFar}
use Rattle.text_flaws.proofs.lines.script_flaw.Given as goal

abbrev pub invariant-loop-content : goal.invariant-loop-content
invariant-loop-content l = record {
  so_far : LinesSoFar l.fn.text l.number l.left;
  room : l.number + length l.left ≤ length l.fn.text;
}

abbrev pub decreases-loop-content : goal.decreases-loop-content
decreases-loop-content l = length l.left
