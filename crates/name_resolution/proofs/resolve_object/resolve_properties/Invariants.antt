use Rattle.std.proofs.Common.{take}
use Rattle.std.specs.List.{AllZip}
use Rattle.name_resolution.specs.code.Loading.{IsPropertyOf}
use Rattle.name_resolution.proofs.resolve_object.resolve_properties.Given as goal

abbrev pub invariant-loop-place : goal.invariant-loop-place
invariant-loop-place l = AllZip (IsPropertyOf l.outlines l.outline) (take l.place l.outline.properties) l.properties
