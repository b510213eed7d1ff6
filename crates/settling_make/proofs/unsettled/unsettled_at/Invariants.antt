use Rattle.settling_make.proofs.Circling.{HandsOnTo}
use Rattle.settling_make.proofs.unsettled.unsettled_at.Given as goal

abbrev pub invariant-loop-target : goal.invariant-loop-target
invariant-loop-target l = HandsOnTo l.meta l.scan.rows l.found.numbers l.number l.node l.target-items l.target-index
