use Rattle.settling_make.specs.Inside.{AreThemselves}
use Rattle.settling_make.proofs.heights.each_itself.Given as goal

abbrev pub invariant-loop-number : goal.invariant-loop-number
invariant-loop-number l = AreThemselves l.number l.numbers
