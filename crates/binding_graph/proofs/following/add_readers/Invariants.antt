use Rattle.std.proofs.Common.{take, map}
use Rattle.binding_graph.specs.Bindings.{binding_at}
use Rattle.binding_graph.specs.code.Graph.{bindings_of}
use Rattle.binding_graph.specs.code.BindingRanks.{rank_of}
use Rattle.binding_graph.specs.code.Lists.{place_at}
use Rattle.binding_graph.specs.code.Turns.{AddsReaders, AreTurns, turns_in}
use Rattle.binding_graph.proofs.following.add_readers.Given as goal

abbrev pub invariant-loop-key : goal.invariant-loop-key
invariant-loop-key l = record {
  turns : AreTurns l.turns;
  added : AddsReaders (binding_at (bindings_of l.graph)) (rank_of l.graph.ranks) l.source (map place_at (take l.key-index l.readers)) (turns_in l.initial.turns) (turns_in l.turns);
}
