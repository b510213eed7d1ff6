use Rattle.std.proofs.Common.{◌≡◌, ℕ, ◌<◌, get_or}
use Rattle.rank_graph.specs.Solutions.{rank_of}
use Rattle.rank_graph.proofs.witness.next_ranked.Given as goal

abbrev pub invariant-loop-node : goal.invariant-loop-node
invariant-loop-node l = (k : ℕ) → k < l.node-index → rank_of l.solution (get_or l.nodes k 0) ≡ l.rank → ⊥
