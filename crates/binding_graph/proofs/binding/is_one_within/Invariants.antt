use Rattle.std.proofs.Common.{◌≡◌, drop, eqb}
use Rattle.std.specs.List.{list_any}
use Rattle.indexmap.specs.IndexSet.{contains}
use Rattle.binding_graph.proofs.binding.is_one_within.Given as goal

-- of those that are left one is among them exactly where one of all is
abbrev pub invariant-loop-source : goal.invariant-loop-source
invariant-loop-source l = list_any (contains eqb l.objects) (drop l.source-index l.sources) ≡ list_any (contains eqb l.objects) l.sources
