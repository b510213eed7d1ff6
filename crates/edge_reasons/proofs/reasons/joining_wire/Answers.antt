use Rattle.std.proofs.Common.{List, subst}
use Rattle.meta_model.specs.declared.object.MetaWire.{MetaWire}
use Rattle.name_indexes.specs.Places.{StandsFirst, NoneStands}
use Rattle.meta_model.proofs.Searches.{met_first, none_more, none_at_all, read_at}
use Rattle.edge_reasons.specs.Reasons.{WireJoins}
use Rattle.edge_reasons.proofs.reasons.joining_wire.Goals as goal

pub returns-then-joins : goal.returns-then-joins
returns-then-joins c =
    subst (λ (listed : List MetaWire). StandsFirst (WireJoins c.args.meta.now c.args.from c.args.to) listed c.loop-place.place) c.wires-wire-items.ensures
    (met_first (WireJoins c.args.meta.now c.args.from c.args.to) _ _ _ c.loop-place.invariant c.loop-place-test.true (read_at _ _ _ c.loop-place-test.true) (c.joins.ensures.0 c.if-joins.true))

pub loop-place-preserved : goal.loop-place-preserved
loop-place-preserved c =
    none_more (WireJoins c.args.meta.now c.args.from c.args.to) _ _ _ c.loop-place.invariant c.loop-place-test.true (read_at _ _ _ c.loop-place-test.true)
    (λ h. let on = c.joins.ensures.1 h in let off = c.if-joins.false in cc)

pub returns : goal.returns
returns c =
    subst (λ (listed : List MetaWire). NoneStands (WireJoins c.args.meta.now c.args.from c.args.to) listed) c.wires-wire-items.ensures
    (none_at_all (WireJoins c.args.meta.now c.args.from c.args.to) _ _ c.loop-place.invariant c.loop-place-test.false)
