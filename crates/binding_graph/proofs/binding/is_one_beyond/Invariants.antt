use Rattle.std.proofs.Common.{◌≡◌, drop, eqb, not}
use Rattle.std.specs.List.{list_any}
use Rattle.indexmap.specs.IndexSet.{contains}
use Rattle.binding_graph.proofs.binding.is_one_beyond.Given as goal

-- of those that are left one isn't among them exactly where one of all isn't
abbrev pub invariant-loop-source : goal.invariant-loop-source
invariant-loop-source l = list_any (λ o. not (contains eqb l.objects o)) (drop l.source-index l.sources) ≡ list_any (λ o. not (contains eqb l.objects o)) l.sources
