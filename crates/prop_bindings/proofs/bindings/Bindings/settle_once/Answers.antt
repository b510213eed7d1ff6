use Rattle.std.proofs.Common.{List, ap, subst}
use Rattle.binding_graph.specs.declared.binding.Binding.{Binding}
use Rattle.binding_graph.specs.Bindings.{binding_at}
use Rattle.prop_bindings.specs.Counts.{Kept}
use Rattle.binding_graph.specs.Laws.{Determines}
use Rattle.binding_graph.specs.code.Graph.{bindings_of}
use Rattle.binding_graph.proofs.Acyclic.{acyclic_determine}
use Rattle.binding_graph.proofs.Ranking.{ranked-acyclic}
use Rattle.prop_bindings.proofs.bindings.Bindings.settle_once.Goals as goal

pub returns : goal.returns
returns c = subst (λ (bs : List Binding). Determines (binding_at bs)) (ap (λ (k : Kept). k.installed) c.self.view_is)
    (acyclic_determine (bindings_of c.self.inside.graph) c.self.invariant.apart (ranked-acyclic _ _ _ c.self.invariant.ranks))
