use Rattle.std.proofs.Common.{◌≡◌, true}
use Rattle.rank_graph.specs.Solutions.{rank_of, leads_of}
use Rattle.effect_scan.specs.Rows.{Edge}
use Rattle.rank_graph.specs.Walks.{IsWalk}
use Rattle.rank_graph.proofs.witness.path_to.Given as goal

abbrev pub invariant-loop-class : goal.invariant-loop-class
invariant-loop-class l = IsWalk (Edge l.rows) l.from l.at l.nodes × (leads_of l.solution l.at l.class ≡ true)

abbrev pub decreases-loop-class : goal.decreases-loop-class
decreases-loop-class l = rank_of l.solution l.at
