use Rattle.std.proofs.Common.{take}
use Rattle.std.specs.List.{AllZip}
use Rattle.name_resolution.specs.code.Bodies.{AreWorks}
use Rattle.name_resolution.proofs.body_resolution.work.resolve_works.Given as goal

abbrev pub invariant-loop-number : goal.invariant-loop-number
invariant-loop-number l = AllZip (AreWorks l.outlines) (take l.number l.program.classes) l.works
