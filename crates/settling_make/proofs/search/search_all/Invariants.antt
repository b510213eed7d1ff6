use Rattle.settling_make.proofs.Driving.{Come}
use Rattle.settling_make.proofs.search.search_all.Given as goal

abbrev pub invariant-loop-root : goal.invariant-loop-root
invariant-loop-root l = Come l.rows l.root l.search
