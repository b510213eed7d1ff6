use Rattle.std.proofs.Common.{None, sym, ◌∙◌}
use Rattle.object_tree.proofs.Above.{same-above}
use Rattle.object_tree.proofs.Keeping.{first-child}
use Rattle.object_tree.proofs.ancestors.closes_cycle.Goals as goal

pub returns-in-None : goal.returns-in-None
returns-in-None c =
    same-above c.args.objects.now c.args.child c.args.parent (first-child c.args.objects.now c.args.child None c.requires (sym c.in-None.is ∙ c.first_child.ensures)) c.eq.ensures
