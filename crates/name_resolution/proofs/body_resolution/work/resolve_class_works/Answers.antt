use Rattle.std.proofs.Common.{Any}
use Rattle.std.specs.List.{AllZip}
use Rattle.class_outlines.specs.declared.fault.MetaFault.TheVariants as fault
use Rattle.class_outlines.specs.declared.offence.Member.TheVariants as member
use Rattle.name_resolution.specs.LackedNames.{LacksInSlot, LacksInClass}
use Rattle.name_resolution.specs.code.Bodies.{IsSlotWork}
use Rattle.class_outlines.proofs.Loading.{stops_in}
use Rattle.class_outlines.proofs.Offending.{within, any_met, zip_further, zip_done}
use Rattle.name_resolution.proofs.body_resolution.work.resolve_class_works.Goals as goal

pub loop-place-preserved : goal.loop-place-preserved
loop-place-preserved c =
    zip_further (IsSlotWork c.args.outlines.now c.args.class.now) c.args.class.now.slots c.as_slice-slot-items.result.now c.as_slice-slot-items.ensures _ _ c.loop-place.place c.slot-item.result _
    c.loop-place-test.true c.slot-item.is c.in-Ok.ensures c.loop-place.invariant c.in_ok-push-in-Ok.ensures.ok

pub returns-in-Err : goal.returns-in-Err
returns-in-Err c =
    stops_in c.args.number c.args.class.now fault.NoMember (LacksInSlot c.args.outlines.now c.args.class.now c.slot-item.result) (LacksInClass c.args.outlines.now c.args.class.now)
    (member.Slot c.loop-place.place)
    (within (LacksInSlot c.args.outlines.now c.args.class.now) c.args.class.now.slots c.as_slice-slot-items.result.now c.as_slice-slot-items.ensures c.loop-place.place c.loop-place-test.true)
    c.in-Err.fault c.in-Err.ensures
    (any_met (LacksInSlot c.args.outlines.now c.args.class.now) c.args.class.now.slots c.as_slice-slot-items.result.now c.as_slice-slot-items.ensures c.loop-place.place c.slot-item.result c.loop-place-test.true c.slot-item.is)
    c.of.result c.of.ensures

pub returns : goal.returns
returns c =
    zip_done (IsSlotWork c.args.outlines.now c.args.class.now) c.args.class.now.slots c.as_slice-slot-items.result.now c.as_slice-slot-items.ensures _ c.loop-place.place c.loop-place-test.false c.loop-place.invariant
