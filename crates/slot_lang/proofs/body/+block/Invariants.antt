use Rattle.std.proofs.Common.{◌+◌, ◌*◌, ◌<◌, length}
use Rattle.slot_lang.proofs.Bodies.{BodySoFar}
use Rattle.slot_lang.proofs.body.+block.Given as goal

abbrev pub decreases-block : goal.decreases-block
decreases-block l = 4 * length l.cursor.now

abbrev pub decreases-otherwise : goal.decreases-otherwise
decreases-otherwise l = 4 * length l.cursor.now + 1

abbrev pub decreases-choice : goal.decreases-choice
decreases-choice l = 4 * length l.cursor.now + 2

abbrev pub decreases-begun_by_word : goal.decreases-begun_by_word
decreases-begun_by_word l = 4 * length l.cursor.now + 3

abbrev pub decreases-statement : goal.decreases-statement
decreases-statement l = 4 * length l.cursor.now + 3

abbrev pub invariant-block-loop-cursor : goal.invariant-block-loop-cursor
invariant-block-loop-cursor l = record {
  so_far : BodySoFar l.fn.cursor l.found l.cursor;
  shorter : length l.cursor < length l.fn.cursor;
}

abbrev pub decreases-block-loop-cursor : goal.decreases-block-loop-cursor
decreases-block-loop-cursor l = length l.cursor
