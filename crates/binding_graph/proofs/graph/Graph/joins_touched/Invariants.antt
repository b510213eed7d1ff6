use Rattle.std.proofs.Common.{◌≡◌, drop, eqb}
use Rattle.std.specs.List.{list_any}
use Rattle.indexmap.specs.IndexSet.{contains}
use Rattle.binding_graph.specs.code.Touched.{leads_out_at}
use Rattle.binding_graph.proofs.graph.Graph.joins_touched.Given as goal

-- of those that are left one has such a binding exactly where one of all has
abbrev pub invariant-loop-object : goal.invariant-loop-object
invariant-loop-object l = list_any (leads_out_at l.self (contains eqb l.objects)) (drop l.object-index l.touched) ≡ list_any (leads_out_at l.self (contains eqb l.objects)) l.touched
