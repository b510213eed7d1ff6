use Rattle.effect_scan.specs.Rows.{row}
use Rattle.settling.specs.code.ByNumbers.{FallFrom}
use Rattle.settling.proofs.Passing.{AllFirst}
use Rattle.settling.proofs.falling.edges_fall.Given as goal

abbrev pub invariant-loop-number : goal.invariant-loop-number
invariant-loop-number l = AllFirst (λ a from. FallFrom l.meta from (row l.scan.rows a) l.standings) l.standings l.number
