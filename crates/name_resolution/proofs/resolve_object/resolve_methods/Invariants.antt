use Rattle.std.proofs.Common.{take}
use Rattle.std.specs.List.{AllZip}
use Rattle.name_resolution.specs.code.Loading.{IsMethodOf}
use Rattle.name_resolution.proofs.resolve_object.resolve_methods.Given as goal

abbrev pub invariant-loop-place : goal.invariant-loop-place
invariant-loop-place l = AllZip (IsMethodOf l.outlines l.works) (take l.place l.outline.methods) l.methods
