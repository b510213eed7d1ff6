use Rattle.std.proofs.Common.{take}
use Rattle.std.specs.List.{AllZip}
use Rattle.name_resolution.specs.code.Wires.{IsOwns}
use Rattle.name_resolution.proofs.resolve_wire.resolve_owns.Given as goal

abbrev pub invariant-loop-place : goal.invariant-loop-place
invariant-loop-place l = AllZip (IsOwns l.outlines) (take l.place l.program.owns) l.loaded
