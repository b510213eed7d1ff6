use Rattle.std.proofs.Common.{arith}
use Rattle.effect_scan.proofs.Listing.{rises_more}
use Rattle.effect_scan.proofs.added.is_increasing.Goals as goal

pub loop-place-preserved : goal.loop-place-preserved
loop-place-preserved c = rises_more _ _ (omega arith) c.loop-place.invariant (omega (arith, c.if-before-here.false))
