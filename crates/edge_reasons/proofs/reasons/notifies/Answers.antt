use Rattle.edge_reasons.proofs.Undrawn.{no, no_object, no_property, no_notify}
use Rattle.edge_reasons.proofs.reasons.notifies.Goals as goal

pub returns-in_default : goal.returns-in_default
returns-in_default c = no (no_object c.args.meta.now c.args.class c.args.property c.args.to c.in_default.ensures.value)

pub returns-in_default-property : goal.returns-in_default-property
returns-in_default-property c = no (no_property c.args.meta.now c.args.class c.args.property c.args.to c.in-Some.object.now c.in-Some.ensures.value c.in_default-property.ensures.value)

pub returns-in-None : goal.returns-in-None
returns-in-None c =
    no (no_notify c.args.meta.now c.args.class c.args.property c.args.to c.in-Some.object.now c.in-Some.ensures.value c.in-Some-property.found.now c.in-Some-property.ensures.value c.in-None.is)
