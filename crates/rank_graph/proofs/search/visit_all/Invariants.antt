use Rattle.std.proofs.Common.{◌≡◌, ℕ, ◌<◌, length}
use Rattle.rank_graph.specs.Searching.{state_of, Finished, NoneOpen}
use Rattle.rank_graph.specs.declared.path.NodeRank.{NodeRank}
use Rattle.rank_graph.specs.declared.path.VisitState.TheVariants.{Done}
use Rattle.rank_graph.proofs.search.visit_all.Given as goal

abbrev pub invariant-loop-root : goal.invariant-loop-root
invariant-loop-root l = Finished l.rows l.own l.states × NoneOpen l.states × (length l.states ≡ length l.rows) × ((a : ℕ) → a < l.root → (d : NodeRank) × (state_of l.states a ≡ Done d))
