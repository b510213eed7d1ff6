use Rattle.std.proofs.Common.{◌≡◌, drop, eqb}
use Rattle.std.specs.List.{list_any}
use Rattle.indexmap.specs.IndexSet.{contains}
use Rattle.binding_graph.specs.Bindings.{binding_at}
use Rattle.binding_graph.specs.code.Graph.{bindings_of}
use Rattle.binding_graph.specs.code.Lists.{place_at}
use Rattle.binding_graph.specs.code.Touched.{leads_out_of}
use Rattle.binding_graph.proofs.graph.Graph.joins_at.Given as goal

-- of those that are left one is such a binding's exactly where one of all is
abbrev pub invariant-loop-target : goal.invariant-loop-target
invariant-loop-target l =
    list_any (λ k. leads_out_of (contains eqb l.objects) (binding_at (bindings_of l.self) (place_at k))) (drop l.target-index l.targets)
    ≡ list_any (λ k. leads_out_of (contains eqb l.objects) (binding_at (bindings_of l.self) (place_at k))) l.targets
