use Rattle.rank_graph.specs.Solutions.{rank_of}
use Rattle.settling_make.specs.Fits.{AreRanksAt}
use Rattle.settling_make.proofs.without_steps.ranks_at.Given as goal

abbrev pub invariant-loop-node : goal.invariant-loop-node
invariant-loop-node l = AreRanksAt (rank_of l.solution) l.node l.ranks
