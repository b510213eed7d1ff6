use Rattle.std.proofs.Common.{◌≡◌, take, Some}
use Rattle.std.specs.List.{AllZip}
use Rattle.settling.proofs.lines.all_places.Given as goal

abbrev pub invariant-loop-place : goal.invariant-loop-place
invariant-loop-place l = AllZip (λ place k. place ≡ Some k) (take l.place-index l.places) l.all
