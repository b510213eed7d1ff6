use Rattle.std.proofs.Common.{◌≤◌, length}
use Rattle.texts.proofs.Partings.{OthersSoFar}
use Rattle.texts.proofs.lines.split_at_line.Given as goal

abbrev pub invariant-loop-found : goal.invariant-loop-found
invariant-loop-found l = record {
  so_far : OthersSoFar l.fn.line l.fn.text l.left;
  within : length l.left ≤ length l.fn.text;
}

abbrev pub decreases-loop-found : goal.decreases-loop-found
decreases-loop-found l = length l.left
