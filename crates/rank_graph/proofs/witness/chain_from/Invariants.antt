use Rattle.std.proofs.Common.{◌≡◌, ◌+◌, ◌≤◌, length}
use Rattle.rank_graph.specs.Solutions.{rank_of}
use Rattle.effect_scan.specs.Rows.{Edge}
use Rattle.rank_graph.specs.Walks.{IsWalk}
use Rattle.rank_graph.proofs.witness.chain_from.Given as goal

abbrev pub invariant-loop-edge : goal.invariant-loop-edge
invariant-loop-edge l =
    IsWalk (Edge l.rows) l.from l.at l.nodes × (length l.nodes ≡ l._edge + 1) × (l.count ≤ rank_of l.solution l.at + l._edge)
