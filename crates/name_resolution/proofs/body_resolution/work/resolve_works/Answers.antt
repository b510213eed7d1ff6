use Rattle.std.proofs.Common.{Any}
use Rattle.std.specs.List.{AllZip}
use Rattle.class_outlines.specs.declared.fault.MetaFault.TheVariants as fault
use Rattle.name_resolution.specs.LackedNames.{LacksInClass}
use Rattle.name_resolution.specs.code.Bodies.{AreWorks, AllWorks}
use Rattle.class_outlines.proofs.Loading.{stopped_in}
use Rattle.class_outlines.proofs.Offending.{item_at, any_met, zip_further, zip_done}
use Rattle.name_resolution.proofs.body_resolution.work.resolve_works.Goals as goal

pub loop-number-preserved : goal.loop-number-preserved
loop-number-preserved c =
    zip_further (AreWorks c.args.outlines.now) c.args.program.now.classes c.as_slice-class-items.result.now c.as_slice-class-items.ensures _ _ c.loop-number.number c.class-item.result _
    c.loop-number-test.true c.class-item.is c.in_ok-of_class.ensures c.loop-number.invariant c.in_ok-push.ensures.ok

pub returns-in_err-of_class : goal.returns-in_err-of_class
returns-in_err-of_class c =
    stopped_in c.args.program.now c.loop-number.number c.class-item.result
    (item_at (LacksInClass c.args.outlines.now) c.args.program.now.classes c.as_slice-class-items.result.now c.as_slice-class-items.ensures c.loop-number.number c.class-item.result c.loop-number-test.true c.class-item.is)
    fault.NoMember (LacksInClass c.args.outlines.now c.class-item.result) (Any (LacksInClass c.args.outlines.now) c.args.program.now.classes)
    (AreWorks c.args.outlines.now c.class-item.result) (AllWorks c.args.outlines.now c.args.program.now.classes) _ c.in_err-of_class.ensures
    (any_met (LacksInClass c.args.outlines.now) c.args.program.now.classes c.as_slice-class-items.result.now c.as_slice-class-items.ensures c.loop-number.number c.class-item.result c.loop-number-test.true c.class-item.is)
    _ c.from_residual.ensures.0 c.from_residual.ensures.1

pub returns : goal.returns
returns c =
    zip_done (AreWorks c.args.outlines.now) c.args.program.now.classes c.as_slice-class-items.result.now c.as_slice-class-items.ensures _ c.loop-number.number c.loop-number-test.false c.loop-number.invariant
