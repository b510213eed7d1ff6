use Rattle.std.proofs.Common.{◌≡◌, drop}
use Rattle.std.specs.List.{list_any}
use Rattle.meta_model.specs.Among.{is_among}
use Rattle.binding_graph.proofs.binding.is_one_inside.Given as goal

-- of those that are left one is among them exactly where one of all is
abbrev pub invariant-loop-source : goal.invariant-loop-source
invariant-loop-source l = list_any (λ o. is_among o l.objects) (drop l.source-index l.sources) ≡ list_any (λ o. is_among o l.objects) l.sources
