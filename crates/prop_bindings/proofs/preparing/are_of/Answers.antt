use Rattle.prop_bindings.specs.Calls.{IsOf}
use Rattle.prop_bindings.proofs.Covering.{zip-ends}
use Rattle.prop_bindings.proofs.preparing.are_of.Goals as goal

pub returns : goal.returns
returns c = zip-ends (IsOf c.args.meta.now c.args.tree.now) c.args.objects.now c.args.classes.now c.loop-class.rest.now c.loop-class.left.now c.is_empty.result c.loop-class.invariant c.in_default.ensures.cases c.is_empty.ensures
