use Rattle.std.proofs.Common.{◌≡◌, [], replicate}
use Rattle.settling_make.proofs.heights.no_rows.Given as goal

abbrev pub invariant-loop-row : goal.invariant-loop-row
invariant-loop-row l = l.rows ≡ replicate l._row []
