use Rattle.std.proofs.Common.{◌≡◌, ℕ, ◌<◌, get_or, false}
use Rattle.rank_graph.specs.Solutions.{leads_of}
use Rattle.rank_graph.proofs.witness.next_leading.Given as goal

abbrev pub invariant-loop-node : goal.invariant-loop-node
invariant-loop-node l = (k : ℕ) → k < l.node-index → leads_of l.solution (get_or l.nodes k 0) l.class ≡ false
