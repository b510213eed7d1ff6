use Rattle.std.proofs.Common.{take}
use Rattle.settling_make.specs.Ranking.{IsHighest}
use Rattle.settling_make.proofs.highest.highest_of.Given as goal

abbrev pub invariant-loop-place : goal.invariant-loop-place
invariant-loop-place l = IsHighest l.values (take l.place-index l.places) l.highest
