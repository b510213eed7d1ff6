use Rattle.class_outlines.specs.Conditions.{RepeatsInSlot}
use Rattle.class_outlines.specs.declared.fault.MetaFault.TheVariants as fault
use Rattle.class_outlines.specs.declared.offence.Member.TheVariants as member
use Rattle.class_outlines.proofs.Offending.{within, none_further, any_met, none_met, offends_in}
use Rattle.meta_objects.proofs.clashes.repeated_in_slots.Goals as goal

pub loop-place-preserved : goal.loop-place-preserved
loop-place-preserved c =
    none_further RepeatsInSlot c.args.class.now.slots c.as_slice-slot-items.result.now c.as_slice-slot-items.ensures c.loop-place.place c.slot-item.result
    c.loop-place.invariant c.loop-place-test.true c.slot-item.is c.in_default.ensures

pub returns-in-Some : goal.returns-in-Some
returns-in-Some c = (
  any_met RepeatsInSlot c.args.class.now.slots c.as_slice-slot-items.result.now c.as_slice-slot-items.ensures c.loop-place.place c.slot-item.result
      c.loop-place-test.true c.slot-item.is c.in-Some.ensures.0,
  offends_in c.args.number c.args.class.now fault.DuplicateMember (member.Slot c.loop-place.place)
      (within RepeatsInSlot c.args.class.now.slots c.as_slice-slot-items.result.now c.as_slice-slot-items.ensures c.loop-place.place c.loop-place-test.true)
      c.in-Some.breach c.in-Some.ensures.1 c.of.result c.of.ensures,
)

pub returns : goal.returns
returns c =
    none_met RepeatsInSlot c.args.class.now.slots c.as_slice-slot-items.result.now c.as_slice-slot-items.ensures c.loop-place.place c.loop-place.invariant c.loop-place-test.false
