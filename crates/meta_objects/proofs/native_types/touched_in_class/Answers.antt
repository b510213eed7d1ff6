use Rattle.syntax_trees.specs.declared.program.Slot.{Slot}
use Rattle.class_outlines.specs.Natives.{TouchesReference}
use Rattle.class_outlines.specs.declared.fault.MetaFault.TheVariants as fault
use Rattle.class_outlines.specs.declared.offence.Member.TheVariants as member
use Rattle.class_outlines.proofs.Offending.{within, none_further, any_met, none_met, offends_in}
use Rattle.meta_objects.proofs.native_types.touched_in_class.Goals as goal

pub loop-place-preserved : goal.loop-place-preserved
loop-place-preserved c =
    none_further (λ (slot : Slot). TouchesReference c.args.outlines.now c.args.class.now.name slot.parameters slot.work) c.args.class.now.slots c.as_slice-slot-items.result.now c.as_slice-slot-items.ensures c.loop-place.place c.slot-item.result
    c.loop-place.invariant c.loop-place-test.true c.slot-item.is (rw c.in_default.is at c.in_ok-breach.ensures)

pub returns-in-Some : goal.returns-in-Some
returns-in-Some c =
    let found = (rw c.in-Some.is at c.in_ok-breach.ensures) in (
      any_met (λ (slot : Slot). TouchesReference c.args.outlines.now c.args.class.now.name slot.parameters slot.work) c.args.class.now.slots c.as_slice-slot-items.result.now c.as_slice-slot-items.ensures c.loop-place.place c.slot-item.result
          c.loop-place-test.true c.slot-item.is found.0,
      offends_in c.args.number c.args.class.now fault.NoType (member.Slot c.loop-place.place)
          (within (λ (slot : Slot). TouchesReference c.args.outlines.now c.args.class.now.name slot.parameters slot.work) c.args.class.now.slots c.as_slice-slot-items.result.now c.as_slice-slot-items.ensures c.loop-place.place c.loop-place-test.true)
          c.in-Some.breach found.1 c.of.result c.of.ensures,
    )

pub returns : goal.returns
returns c =
    none_met (λ (slot : Slot). TouchesReference c.args.outlines.now c.args.class.now.name slot.parameters slot.work) c.args.class.now.slots c.as_slice-slot-items.result.now c.as_slice-slot-items.ensures c.loop-place.place c.loop-place.invariant c.loop-place-test.false
