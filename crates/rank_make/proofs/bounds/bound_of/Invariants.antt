use Rattle.std.proofs.Common.{ℕ, ◌≡◌, ◌≤◌, ◌<◌, ◌+◌, ◌⊎◌}
use Rattle.rank_check.specs.Valid.{most_bound}
use Rattle.rank_graph.specs.Solutions.{rank_of}
use Rattle.rank_make.proofs.bounds.bound_of.Given as goal

abbrev pub invariant-loop-node : goal.invariant-loop-node
invariant-loop-node l = record {
  above : (n : ℕ) → n < l.node → rank_of l.solution n < l.bound;
  least : (l.bound ≡ 0) ⊎ ((n : ℕ) × (n < l.count) × (rank_of l.solution n + 1 ≡ l.bound));
  most : l.bound ≤ most_bound;
}
