use Rattle.std.proofs.Common.{◌≡◌, drop}
use Rattle.meta_model.specs.Among.{is_among}
use Rattle.binding_graph.proofs.binding.is_among.Given as goal

-- of those that are left it is one exactly where it is one of all
abbrev pub invariant-loop-other : goal.invariant-loop-other
invariant-loop-other l = is_among l.object (drop l.other-index l.objects) ≡ is_among l.object l.objects
