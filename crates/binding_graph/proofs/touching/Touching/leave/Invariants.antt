use Rattle.binding_graph.specs.code.Graph.{LosesPlace}
use Rattle.binding_graph.proofs.touching.Touching.leave.Given as goal

abbrev pub invariant-loop-source : goal.invariant-loop-source
invariant-loop-source l = LosesPlace l.target l.fn.self l.self
