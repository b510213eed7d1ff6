use Rattle.rank_graph.specs.Solutions.{rank_of}
use Rattle.settling_make.proofs.Flooring.{RaisedTo}
use Rattle.settling_make.proofs.ranks.raise_all.Given as goal

abbrev pub invariant-loop-member : goal.invariant-loop-member
invariant-loop-member l = RaisedTo l.members l.floor (rank_of l.heights) l.fn.ranks l.member-index l.ranks
