use Rattle.std.proofs.Common.{◌≡◌, ◌<◌, ℕ, false}
use Rattle.rank_graph.specs.declared.bits.TheConstants.{SIZE}
use Rattle.rank_graph.specs.Entries.{leads_at}
use Rattle.rank_graph.specs.Solutions.{entries_of}
use Rattle.rank_graph.proofs.solution.Solution.leads_nowhere.Given as goal

abbrev pub invariant-loop-group : goal.invariant-loop-group
invariant-loop-group l = (k : ℕ) → k < l.group → (c : ℕ) → c < SIZE → leads_at (entries_of l.self k) l.node c ≡ false
