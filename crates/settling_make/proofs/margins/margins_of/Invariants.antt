use Rattle.settling_make.specs.Margins.{AreMarginsTo}
use Rattle.settling_make.proofs.margins.margins_of.Given as goal

abbrev pub invariant-loop-place : goal.invariant-loop-place
invariant-loop-place l = AreMarginsTo l.meta l.made l.place-index l.margins
