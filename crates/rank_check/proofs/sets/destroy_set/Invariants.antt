use Rattle.std.proofs.Common.{take}
use Rattle.rank_check.proofs.Listing.{SetsFirst}
use Rattle.rank_check.proofs.sets.destroy_set.Given as goal

abbrev pub invariant-loop-place : goal.invariant-loop-place
invariant-loop-place l = SetsFirst l.meta (take l.place l.items) l.set
