use Rattle.settling_make.proofs.Collecting.{AddsTo}
use Rattle.settling_make.proofs.outer.add_outer.Given as goal

abbrev pub invariant-loop-target : goal.invariant-loop-target
invariant-loop-target l = AddsTo l.found.numbers l.component l.target-items l.fn.others l.target-index l.others
