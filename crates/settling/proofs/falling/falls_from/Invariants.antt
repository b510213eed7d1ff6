use Rattle.settling.specs.code.ByNumbers.{FallsAlong}
use Rattle.settling.proofs.Passing.{AllRead}
use Rattle.settling.proofs.falling.falls_from.Given as goal

abbrev pub invariant-loop-target : goal.invariant-loop-target
invariant-loop-target l = AllRead (λ to. FallsAlong l.meta l.from to) l.standings l.targets l.target-index
