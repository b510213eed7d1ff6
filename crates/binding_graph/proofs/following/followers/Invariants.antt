use Rattle.std.proofs.Common.{◌++◌, [], length, take, None}
use Rattle.binding_graph.specs.Bindings.{binding_at, without_all}
use Rattle.binding_graph.specs.code.Graph.{bindings_of}
use Rattle.binding_graph.specs.code.BindingRanks.{rank_of}
use Rattle.binding_graph.specs.code.Turns.{AreTurns, IsFollowed, turns_in}
use Rattle.binding_graph.proofs.Reaching.{turns_left}
use Rattle.binding_graph.proofs.following.followers.Given as goal

-- the readers of the first ones were found
abbrev pub invariant-loop-source : goal.invariant-loop-source
invariant-loop-source l = record {
  turns : AreTurns l.turns;
  followed : IsFollowed (binding_at (bindings_of l.graph)) (binding_at (without_all l.from (bindings_of l.graph))) (rank_of l.graph.ranks) l.from (take l.source-index l.from) [] None (turns_in l.turns);
}

-- .. of all, and of those whose turn was
abbrev pub invariant-turns : goal.invariant-turns
invariant-turns l = record {
  turns : AreTurns l.turns;
  followed : IsFollowed (binding_at (bindings_of l.graph)) (binding_at (without_all l.from (bindings_of l.graph))) (rank_of l.graph.ranks) l.from (l.from ++ l.found.items) l.found.items l.last (turns_in l.turns);
}

abbrev pub decreases-turns : goal.decreases-turns
decreases-turns l = turns_left l.graph.ranks.next l.last (length (turns_in l.turns))
