use Rattle.class_outlines.specs.Conditions.{RepeatsInMethod}
use Rattle.class_outlines.specs.declared.fault.MetaFault.TheVariants as fault
use Rattle.class_outlines.proofs.Offending.{item_at, none_further, any_met, none_met, offends_from}
use Rattle.meta_objects.proofs.clashes.repeated_in_classes.Goals as goal

pub loop-number-preserved : goal.loop-number-preserved
loop-number-preserved c =
    none_further RepeatsInMethod c.args.program.now.classes c.as_slice-class-items.result.now c.as_slice-class-items.ensures c.loop-number.number c.class-item.result
    c.loop-number.invariant c.loop-number-test.true c.class-item.is c.in_default.ensures

pub returns-in-Some : goal.returns-in-Some
returns-in-Some c = (
  any_met RepeatsInMethod c.args.program.now.classes c.as_slice-class-items.result.now c.as_slice-class-items.ensures c.loop-number.number c.class-item.result
      c.loop-number-test.true c.class-item.is c.in-Some.ensures.0,
  offends_from c.args.program.now c.loop-number.number c.class-item.result fault.DuplicateMember c.in-Some.offence
      (item_at RepeatsInMethod c.args.program.now.classes c.as_slice-class-items.result.now c.as_slice-class-items.ensures c.loop-number.number c.class-item.result c.loop-number-test.true c.class-item.is)
      c.in-Some.ensures.1,
)

pub returns : goal.returns
returns c =
    none_met RepeatsInMethod c.args.program.now.classes c.as_slice-class-items.result.now c.as_slice-class-items.ensures c.loop-number.number c.loop-number.invariant c.loop-number-test.false
