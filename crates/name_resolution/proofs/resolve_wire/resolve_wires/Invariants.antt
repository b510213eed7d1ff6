use Rattle.std.proofs.Common.{take}
use Rattle.std.specs.List.{AllZip}
use Rattle.name_resolution.specs.code.Wires.{IsWire}
use Rattle.name_resolution.proofs.resolve_wire.resolve_wires.Given as goal

abbrev pub invariant-loop-place : goal.invariant-loop-place
invariant-loop-place l = AllZip (IsWire l.outlines) (take l.place l.program.wires) l.loaded
