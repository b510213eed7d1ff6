use Rattle.class_outlines.specs.declared.fault.MetaFault.TheVariants as fault
use Rattle.meta_objects.specs.code.OwnTypes.{DeclaresUnknown}
use Rattle.class_outlines.proofs.Offending.{item_at, none_further, none_met, offends_from}
use Rattle.class_outlines.proofs.Once.{none_at}
use Rattle.meta_objects.proofs.OwnMembers.{lacks_type, none_lacks_type}
use Rattle.meta_objects.proofs.unknown_types.unknown_type.Goals as goal

pub loop-number-preserved : goal.loop-number-preserved
loop-number-preserved c =
    none_further (DeclaresUnknown c.args.outlines.now) c.args.program.now.classes c.as_slice-class-items.result.now c.as_slice-class-items.ensures c.loop-number.number c.class-item.result
    c.loop-number.invariant c.loop-number-test.true c.class-item.is c.in_default.ensures

pub returns-in-Some : goal.returns-in-Some
returns-in-Some c =
    let at = item_at (DeclaresUnknown c.args.outlines.now) c.args.program.now.classes c.as_slice-class-items.result.now c.as_slice-class-items.ensures c.loop-number.number c.class-item.result c.loop-number-test.true c.class-item.is in (
      lacks_type c.args.program.now.classes c.args.outlines.now c.requires c.loop-number.number c.class-item.result at c.in-Some.ensures.0,
      offends_from c.args.program.now c.loop-number.number c.class-item.result fault.NoType c.in-Some.offence at c.in-Some.ensures.1,
    )

pub returns : goal.returns
returns c =
    none_lacks_type c.args.program.now.classes c.args.outlines.now c.requires
    (none_at (DeclaresUnknown c.args.outlines.now) c.args.program.now.classes
    (none_met (DeclaresUnknown c.args.outlines.now) c.args.program.now.classes c.as_slice-class-items.result.now c.as_slice-class-items.ensures c.loop-number.number c.loop-number.invariant c.loop-number-test.false))
