use Rattle.std.proofs.Common.{take}
use Rattle.std.specs.List.{AllZip}
use Rattle.settling.specs.code.Standings.{IsSetAt}
use Rattle.settling.proofs.destroy_sets.destroy_sets.Given as goal

abbrev pub invariant-loop-place : goal.invariant-loop-place
invariant-loop-place l = AllZip (IsSetAt l.meta l.lines) (take l.place-index l.places) l.sets
