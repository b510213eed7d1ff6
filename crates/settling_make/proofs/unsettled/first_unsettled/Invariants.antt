use Rattle.settling_make.specs.Inside.{HandOnBefore}
use Rattle.settling_make.proofs.unsettled.first_unsettled.Given as goal

abbrev pub invariant-loop-number : goal.invariant-loop-number
invariant-loop-number l = HandOnBefore l.meta l.scan.rows l.found.numbers l.number
