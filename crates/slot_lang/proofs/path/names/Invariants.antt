use Rattle.std.proofs.Common.{◌≤◌, length}
use Rattle.slot_lang.proofs.Paths.{NamesSoFar}
use Rattle.slot_lang.proofs.path.names.Given as goal

abbrev pub invariant-loop-cursor : goal.invariant-loop-cursor
invariant-loop-cursor l = record {
  so_far : NamesSoFar l.fn.cursor l.names l.cursor;
  no_longer : length l.cursor ≤ length l.fn.cursor;
}

abbrev pub decreases-loop-cursor : goal.decreases-loop-cursor
decreases-loop-cursor l = length l.cursor
