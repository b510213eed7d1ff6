use Rattle.rank_graph.specs.Solutions.{leads_of}
use Rattle.settling_make.proofs.Ending.{NoneBefore}
use Rattle.settling_make.proofs.ends.first_ending.Given as goal

abbrev pub invariant-loop-place : goal.invariant-loop-place
invariant-loop-place l = NoneBefore l.meta l.numbers (leads_of l.destroyed) l.place
