use Rattle.rank_graph.specs.Solutions.{rank_of}
use Rattle.rank_make.specs.Solved.{AreLow}
use Rattle.rank_make.proofs.bounds.first_high.Given as goal

abbrev pub invariant-loop-node : goal.invariant-loop-node
invariant-loop-node l = AreLow l.node (rank_of l.solution)
