use Rattle.std.proofs.Common.{◌+◌, ◌≤◌, length}
use Rattle.explained_commands.proofs.Passing.{EventsSoFar}
use Rattle.explained_commands.proofs.reports.events.event_line.Given as goal

abbrev pub invariant-loop-line : goal.invariant-loop-line
invariant-loop-line l = record {
  so_far : EventsSoFar l.fn.script l.number l.left l.event;
  room : l.number + length l.left ≤ length l.fn.script;
}

abbrev pub decreases-loop-line : goal.decreases-loop-line
decreases-loop-line l = length l.left
