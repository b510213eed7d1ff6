use Rattle.binding_graph.proofs.Graphs.{empty-graph}
use Rattle.binding_graph.proofs.graph.Graph.new.Goals as goal

pub returns-clause-graph : goal.returns-clause-graph
returns-clause-graph c = empty-graph _ c.new-installed.ensures.keyed c.new-installed.ensures.none c.new-ranks.ensures
