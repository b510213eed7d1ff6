use Rattle.std.proofs.Common.{take}
use Rattle.std.specs.List.{AllZip}
use Rattle.name_resolution.specs.code.Sites.{IsSite}
use Rattle.name_resolution.proofs.resolve_site.resolve_sites.Given as goal

abbrev pub invariant-loop-place : goal.invariant-loop-place
invariant-loop-place l = AllZip (IsSite l.outlines) (take l.place l.program.sites) l.loaded
