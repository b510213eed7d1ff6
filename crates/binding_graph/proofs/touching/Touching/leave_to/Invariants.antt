use Rattle.binding_graph.specs.code.Graph.{LosesTarget}
use Rattle.binding_graph.proofs.touching.Touching.leave_to.Given as goal

abbrev pub invariant-loop-source : goal.invariant-loop-source
invariant-loop-source l = LosesTarget l.other l.target l.initial.self l.self
