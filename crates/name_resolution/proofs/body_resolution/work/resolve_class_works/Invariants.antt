use Rattle.std.proofs.Common.{take}
use Rattle.std.specs.List.{AllZip}
use Rattle.name_resolution.specs.code.Bodies.{IsSlotWork}
use Rattle.name_resolution.proofs.body_resolution.work.resolve_class_works.Given as goal

abbrev pub invariant-loop-place : goal.invariant-loop-place
invariant-loop-place l = AllZip (IsSlotWork l.outlines l.class) (take l.place l.class.slots) l.works
