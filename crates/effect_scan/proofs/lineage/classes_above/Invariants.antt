use Rattle.effect_scan.proofs.Climbing.{Climbing}
use Rattle.effect_scan.proofs.lineage.classes_above.Given as goal

abbrev pub invariant-climb : goal.invariant-climb
invariant-climb l = Climbing l.meta l.class l.above l.found

abbrev pub decreases-climb : goal.decreases-climb
decreases-climb l = l.above
