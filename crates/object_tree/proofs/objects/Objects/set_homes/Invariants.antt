use Rattle.std.proofs.Common.{◌≡◌, drop}
use Rattle.object_tree.specs.Moving.{all_in_loop}
use Rattle.object_tree.proofs.objects.Objects.set_homes.Given as goal

-- with the rest in the loop, all are
abbrev pub invariant-loop-object : goal.invariant-loop-object
invariant-loop-object l =
    all_in_loop (drop l.object-index l.objects) l.home l.self ≡ all_in_loop l.objects l.home l.fn.self
