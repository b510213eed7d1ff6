use Rattle.edge_reasons.proofs.Undrawn.{no_wire, no_site, none_from_method, none_from_property}
use Rattle.edge_reasons.proofs.reasons.reason_for.Goals as goal

pub returns-in-None-joining_wire-clause-none : goal.returns-in-None-joining_wire-clause-none
returns-in-None-joining_wire-clause-none c =
    none_from_method c.args.meta.now c.args.from c.args.to c.in-Method.method c.in-Method.is c.in-None.ensures.none (no_wire c.args.meta.now c.args.from c.args.to c.in-None-joining_wire.ensures)

pub returns-in-None-binding_site-clause-none : goal.returns-in-None-binding_site-clause-none
returns-in-None-binding_site-clause-none c =
    none_from_property c.args.meta.now c.args.from c.args.to c.in-Property.property c.in-Property.is (λ h. let on = c.notifies.ensures.1 h in let off = c.if-notifies.false in cc)
    (no_site c.args.meta.now c.args.from c.args.to c.in-None-binding_site.ensures)

pub returns-in-None-joining_wire-clause-some : goal.returns-in-None-joining_wire-clause-some
returns-in-None-joining_wire-clause-some c = λ leads.
    absurd (none_from_method c.args.meta.now c.args.from c.args.to c.in-Method.method c.in-Method.is c.in-None.ensures.none (no_wire c.args.meta.now c.args.from c.args.to c.in-None-joining_wire.ensures) leads)

pub returns-in-None-binding_site-clause-some : goal.returns-in-None-binding_site-clause-some
returns-in-None-binding_site-clause-some c = λ leads.
    absurd (none_from_property c.args.meta.now c.args.from c.args.to c.in-Property.property c.in-Property.is (λ h. let on = c.notifies.ensures.1 h in let off = c.if-notifies.false in cc)
    (no_site c.args.meta.now c.args.from c.args.to c.in-None-binding_site.ensures) leads)
