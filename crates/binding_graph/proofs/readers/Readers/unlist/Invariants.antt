use Rattle.binding_graph.specs.code.Graph.{LosesReader}
use Rattle.binding_graph.proofs.readers.Readers.unlist.Given as goal

abbrev pub invariant-loop-source : goal.invariant-loop-source
invariant-loop-source l = LosesReader l.kept l.target l.initial.self l.self
