use Rattle.class_outlines.specs.Conditions.{LacksPropertyType}
use Rattle.class_outlines.specs.declared.fault.MetaFault.TheVariants as fault
use Rattle.class_outlines.specs.declared.offence.Member.TheVariants as member
use Rattle.class_outlines.proofs.Offending.{within, none_further, any_met, none_met, offends_in}
use Rattle.meta_objects.proofs.unknown_types.unknown_of_property.Goals as goal

pub loop-place-preserved : goal.loop-place-preserved
loop-place-preserved c =
    none_further (LacksPropertyType c.args.outlines.now) c.args.class.now.properties c.as_slice-property-items.result.now c.as_slice-property-items.ensures c.loop-place.place c.property-item.result
    c.loop-place.invariant c.loop-place-test.true c.property-item.is c.in_default.ensures

pub returns-in-Some : goal.returns-in-Some
returns-in-Some c =
    let found = c.in-Some.ensures in (
      any_met (LacksPropertyType c.args.outlines.now) c.args.class.now.properties c.as_slice-property-items.result.now c.as_slice-property-items.ensures c.loop-place.place c.property-item.result
          c.loop-place-test.true c.property-item.is found.0,
      offends_in c.args.number c.args.class.now fault.NoType (member.Property c.loop-place.place)
          (within (LacksPropertyType c.args.outlines.now) c.args.class.now.properties c.as_slice-property-items.result.now c.as_slice-property-items.ensures c.loop-place.place c.loop-place-test.true)
          c.in-Some.breach found.1 c.of.result c.of.ensures,
    )

pub returns : goal.returns
returns c =
    none_met (LacksPropertyType c.args.outlines.now) c.args.class.now.properties c.as_slice-property-items.result.now c.as_slice-property-items.ensures c.loop-place.place c.loop-place.invariant c.loop-place-test.false
