use Rattle.rank_graph.specs.Solutions.{rank_of}
use Rattle.settling_make.proofs.Setting.{RoundTo}
use Rattle.settling_make.proofs.sets.round_of.Given as goal

abbrev pub invariant-loop-member : goal.invariant-loop-member
invariant-loop-member l = RoundTo l.members (rank_of l.heights) l.member-index l.round
