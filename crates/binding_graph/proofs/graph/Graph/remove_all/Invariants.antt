use Rattle.std.proofs.Common.{◌≡◌, drop}
use Rattle.binding_graph.specs.Bindings.{without_all}
use Rattle.binding_graph.specs.code.Graph.{IsGraph, bindings_of}
use Rattle.binding_graph.proofs.graph.Graph.remove_all.Given as goal

-- what is left to remove leaves of the bindings what all of them leave of those that there were
abbrev pub invariant-loop-place : goal.invariant-loop-place
invariant-loop-place l = record {
  left : without_all (drop l.place-index l.fn.places) (bindings_of l.self) ≡ without_all l.fn.places (bindings_of l.initial.self);
  graph : IsGraph l.self;
}
