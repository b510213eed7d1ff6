use Rattle.std.proofs.Common.{◌<◌, length}
use Rattle.slot_lang.proofs.Sets.{SetsSoFar}
use Rattle.slot_lang.proofs.update_group.sets.Given as goal

abbrev pub invariant-loop-cursor : goal.invariant-loop-cursor
invariant-loop-cursor l = record {
  so_far : SetsSoFar l.fn.cursor l.sets l.cursor;
  shorter : length l.cursor < length l.fn.cursor;
}

abbrev pub decreases-loop-cursor : goal.decreases-loop-cursor
decreases-loop-cursor l = length l.cursor
