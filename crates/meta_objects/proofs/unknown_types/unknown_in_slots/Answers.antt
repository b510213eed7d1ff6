use Rattle.std.specs.Prelude.{Any}
use Rattle.syntax_trees.specs.declared.program.Slot.{Slot}
use Rattle.class_outlines.specs.DeclaredKinds.{LacksType}
use Rattle.class_outlines.specs.Outlines.{types_of}
use Rattle.class_outlines.specs.declared.fault.MetaFault.TheVariants as fault
use Rattle.class_outlines.specs.declared.offence.Member.TheVariants as member
use Rattle.class_outlines.proofs.Offending.{within, none_further, any_met, none_met, offends_in}
use Rattle.meta_objects.proofs.unknown_types.unknown_in_slots.Goals as goal

pub loop-place-preserved : goal.loop-place-preserved
loop-place-preserved c =
    none_further (λ (s : Slot). Any (LacksType c.args.outlines.now) (types_of s.parameters)) c.args.class.now.slots c.as_slice-slot-items.result.now c.as_slice-slot-items.ensures c.loop-place.place c.slot-item.result
    c.loop-place.invariant c.loop-place-test.true c.slot-item.is (rw c.as_slice.ensures at c.in_default.ensures)

pub returns-in-Some : goal.returns-in-Some
returns-in-Some c =
    let found = rw c.as_slice.ensures at c.in-Some.ensures in (
      any_met (λ (s : Slot). Any (LacksType c.args.outlines.now) (types_of s.parameters)) c.args.class.now.slots c.as_slice-slot-items.result.now c.as_slice-slot-items.ensures c.loop-place.place c.slot-item.result
          c.loop-place-test.true c.slot-item.is found.0,
      offends_in c.args.number c.args.class.now fault.NoType (member.Slot c.loop-place.place)
          (within (λ (s : Slot). Any (LacksType c.args.outlines.now) (types_of s.parameters)) c.args.class.now.slots c.as_slice-slot-items.result.now c.as_slice-slot-items.ensures c.loop-place.place c.loop-place-test.true)
          c.in-Some.breach found.1 c.of.result c.of.ensures,
    )

pub returns : goal.returns
returns c =
    none_met (λ (s : Slot). Any (LacksType c.args.outlines.now) (types_of s.parameters)) c.args.class.now.slots c.as_slice-slot-items.result.now c.as_slice-slot-items.ensures c.loop-place.place c.loop-place.invariant c.loop-place-test.false
