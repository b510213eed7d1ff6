use Rattle.class_outlines.specs.Natives.{HasReferenceNative}
use Rattle.class_outlines.specs.declared.fault.MetaFault.TheVariants as fault
use Rattle.class_outlines.proofs.Offending.{item_at, none_further, any_met, none_met, offends_from}
use Rattle.meta_objects.proofs.native_types.touched_reference.Goals as goal

pub loop-number-preserved : goal.loop-number-preserved
loop-number-preserved c =
    none_further (HasReferenceNative c.args.outlines.now) c.args.program.now.classes c.as_slice-class-items.result.now c.as_slice-class-items.ensures c.loop-number.number c.class-item.result
    c.loop-number.invariant c.loop-number-test.true c.class-item.is (rw c.in_default.is at c.in_ok-offence.ensures)

pub returns-in-Some : goal.returns-in-Some
returns-in-Some c =
    let found = rw c.in-Some.is at c.in_ok-offence.ensures in (
      any_met (HasReferenceNative c.args.outlines.now) c.args.program.now.classes c.as_slice-class-items.result.now c.as_slice-class-items.ensures c.loop-number.number c.class-item.result
          c.loop-number-test.true c.class-item.is found.0,
      offends_from c.args.program.now c.loop-number.number c.class-item.result fault.NoType c.in-Some.offence
          (item_at (HasReferenceNative c.args.outlines.now) c.args.program.now.classes c.as_slice-class-items.result.now c.as_slice-class-items.ensures c.loop-number.number c.class-item.result c.loop-number-test.true c.class-item.is)
          found.1,
    )

pub returns : goal.returns
returns c =
    none_met (HasReferenceNative c.args.outlines.now) c.args.program.now.classes c.as_slice-class-items.result.now c.as_slice-class-items.ensures c.loop-number.number c.loop-number.invariant c.loop-number-test.false
