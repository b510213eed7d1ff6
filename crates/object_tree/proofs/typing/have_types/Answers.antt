use Rattle.object_tree.proofs.Types.{typed-on, typed-end}
use Rattle.object_tree.proofs.typing.have_types.Goals as goal

pub loop-kind-preserved : goal.loop-kind-preserved
loop-kind-preserved c = typed-on c.args.meta.now c.args.objects.now c.in-Some-split_first.ensures.cases.0 c.in-Some.ensures.cases.0 (c.has_type.ensures.0 c.if-has_type.true) c.loop-kind.invariant

pub returns : goal.returns
returns c = typed-end c.args.meta.now c.args.objects.now _ _ c.in_default.ensures.cases c.is_empty.ensures c.loop-kind.invariant
