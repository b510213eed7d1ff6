use Rattle.std.proofs.Common.{true}
use Rattle.binding_graph.specs.code.Graph.{bindings_of}
use Rattle.binding_graph.proofs.Graphs.{graph-of, indexed-of, none-left, removed-touched}
use Rattle.binding_graph.proofs.graph.Graph.remove.Goals as goal

pub returns-then-is_empty-clause-left : goal.returns-then-is_empty-clause-left
returns-then-is_empty-clause-left c = none-left c.args.place.now (bindings_of c.args.self.now) (c.is_empty.ensures.0 c.if-is_empty.true)

pub remove_bound-requires : goal.remove_bound-requires
remove_bound-requires c = indexed-of c.args.self.now c.requires

pub returns-clause-graph : goal.returns-clause-graph
returns-clause-graph c = graph-of c.remove_bound.new.self c.remove_bound.ensures.indexed
    (removed-touched c.args.self.now c.remove_bound.new.self c.args.place.now c.remove_bound.ensures.left (λ o. true) c.remove_bound.ensures.touched c.requires.touched)
