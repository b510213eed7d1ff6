use Rattle.effect_scan.specs.Rows.{row}
use Rattle.settling.specs.code.Spans.{NodeHolds}
use Rattle.settling.proofs.Passing.{AllFirst}
use Rattle.settling.proofs.resting.members_hold.Given as goal

abbrev pub invariant-loop-number : goal.invariant-loop-number
invariant-loop-number l = AllFirst (λ n s. NodeHolds l.meta l.standings (row l.scan.rows n) l.spans s) l.standings l.number
