use Rattle.std.proofs.Common.{take}
use Rattle.std.specs.List.{AllZip}
use Rattle.name_resolution.specs.code.Natives.{HasPropertyIn}
use Rattle.name_resolution.proofs.resolve_native.resolve_named.Given as goal

abbrev pub invariant-loop-name : goal.invariant-loop-name
invariant-loop-name l = AllZip (HasPropertyIn l.outlines l.class) (take l.name-index l.names) l.numbers
