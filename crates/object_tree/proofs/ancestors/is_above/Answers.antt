use Rattle.std.proofs.Common.{sym, ◌∙◌, arith}
use Rattle.object_tree.proofs.Walks.{deeper}
use Rattle.object_tree.proofs.Above.{above-parent, here-above, apart-of, same-of}
use Rattle.object_tree.proofs.ancestors.is_above.Goals as goal

pub climb-preserved : goal.climb-preserved
climb-preserved c =
    above-parent c.args.objects.now c.args.above c.climb.at c.in-Some.parent (sym c.parent.ensures ∙ c.in-Some.is) (apart-of c.climb.at c.args.above c.ne.ensures c.climb-test.true) c.climb.invariant

pub returns : goal.returns
returns c = here-above c.args.objects.now c.args.above c.climb.at (same-of c.climb.at c.args.above c.ne.ensures c.climb-test.false) c.climb.invariant

pub climb-smaller : goal.climb-smaller
climb-smaller c = omega (arith, deeper c.args.objects.now c.requires c.climb.at c.in-Some.parent (sym c.parent.ensures ∙ c.in-Some.is))
