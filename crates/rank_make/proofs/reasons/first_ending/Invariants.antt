use Rattle.rank_graph.specs.Solutions.{leads_of}
use Rattle.rank_make.specs.Solved.{NoneEndsBefore}
use Rattle.rank_make.proofs.reasons.first_ending.Given as goal

abbrev pub invariant-loop-number : goal.invariant-loop-number
invariant-loop-number l = NoneEndsBefore l.meta (leads_of l.solution) l.number
