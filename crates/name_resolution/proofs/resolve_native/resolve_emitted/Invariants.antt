use Rattle.std.proofs.Common.{take}
use Rattle.std.specs.List.{AllZip}
use Rattle.name_resolution.specs.code.Natives.{HasSignalIn}
use Rattle.name_resolution.proofs.resolve_native.resolve_emitted.Given as goal

abbrev pub invariant-loop-sig : goal.invariant-loop-sig
invariant-loop-sig l = AllZip (HasSignalIn l.outlines l.class) (take l.sig-index l.signals) l.numbers
