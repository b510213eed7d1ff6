use Rattle.std.proofs.Common.{take}
use Rattle.std.specs.List.{AllZip}
use Rattle.name_resolution.specs.code.Loading.{IsObject}
use Rattle.name_resolution.proofs.resolve_object.resolve_objects.Given as goal

abbrev pub invariant-loop-outline : goal.invariant-loop-outline
invariant-loop-outline l = AllZip (IsObject l.outlines l.works) (take l.outline-index l.all) l.objects
