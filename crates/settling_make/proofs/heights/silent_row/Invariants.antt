use Rattle.settling_make.proofs.Silent.{EndsTo}
use Rattle.settling_make.proofs.heights.silent_row.Given as goal

abbrev pub invariant-loop-target : goal.invariant-loop-target
invariant-loop-target l = EndsTo l.scan.nodes l.scan.rows l.found.numbers l.number l.target-items l.target-index l.row
