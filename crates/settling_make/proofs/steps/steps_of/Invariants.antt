use Rattle.settling_make.proofs.Stepping.{StepsTo}
use Rattle.settling_make.proofs.steps.steps_of.Given as goal

abbrev pub invariant-loop-component : goal.invariant-loop-component
invariant-loop-component l = StepsTo l.outer l.margins l.component l.steps
