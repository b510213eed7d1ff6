use Rattle.std.proofs.Common.{ℕ, ◌<◌, ◌≤◌, length, get_or}
use Rattle.rank_graph.proofs.cycle.least_place.Given as goal

abbrev pub invariant-loop-k : goal.invariant-loop-k
invariant-loop-k l = (l.place < length l.nodes) × ((j : ℕ) → j < l.k → get_or l.nodes l.place 0 ≤ get_or l.nodes j 0)
