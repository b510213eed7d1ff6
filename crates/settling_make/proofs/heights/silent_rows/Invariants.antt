use Rattle.settling_make.proofs.Silent.{RowsTo}
use Rattle.settling_make.proofs.heights.silent_rows.Given as goal

abbrev pub invariant-loop-number : goal.invariant-loop-number
invariant-loop-number l = RowsTo l.scan.nodes l.scan.rows l.found.numbers l.number l.rows
