use Rattle.std.proofs.Common.{take}
use Rattle.std.specs.List.{AllZip}
use Rattle.class_outlines.specs.code.ReadTypes.{IsReadAs}
use Rattle.class_outlines.proofs.types.read_types.Given as goal

abbrev pub invariant-loop-one : goal.invariant-loop-one
invariant-loop-one l = AllZip (IsReadAs l.outlines) (take l.one-index l.declared) l.types
