use Rattle.binding_graph.proofs.Acyclic
use Rattle.binding_graph.proofs.laws.acyclic_determine.Goals as goal

pub returns : goal.returns
returns c = Acyclic.acyclic_determine
