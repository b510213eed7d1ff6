use Rattle.std.proofs.Common.{ap}
use Rattle.rank_graph.specs.Entries.{rank_in}
use Rattle.rank_graph.specs.Solutions.{rank_of}
use Rattle.rank_graph.proofs.solution.Solution.rank.Goals as goal

pub returns-in-Some : goal.returns-in-Some
unfolding rank_of
returns-in-Some c = ap rank_in c.in-Some.ensures

pub returns-in-None : goal.returns-in-None
unfolding rank_of
returns-in-None c = ap rank_in c.in-None.ensures
