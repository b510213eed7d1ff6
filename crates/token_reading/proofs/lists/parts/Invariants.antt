use Rattle.std.proofs.Common.{◌<◌, length}
use Rattle.token_reading.proofs.Listed.{PartsUnderway}
use Rattle.token_reading.proofs.lists.parts.Given as goal

abbrev pub invariant-loop-cursor : goal.invariant-loop-cursor
invariant-loop-cursor g l = record {
  so_far : PartsUnderway g.P.Part.spell g.P.Part.tree g.P.Part.Ends l.fn.cursor l.parts l.cursor;
  shorter : length l.cursor < length l.fn.cursor;
}

abbrev pub decreases-loop-cursor : goal.decreases-loop-cursor
decreases-loop-cursor g l = length l.cursor
