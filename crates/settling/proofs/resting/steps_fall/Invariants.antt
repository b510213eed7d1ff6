use Rattle.std.proofs.Common.{◌≢◌, ◌+◌, ◌≤◌, Some}
use Rattle.settling.specs.declared.standings.Standing.{Standing}
use Rattle.settling.proofs.Passing.{AllRead}
use Rattle.settling.proofs.resting.steps_fall.Given as goal

abbrev pub invariant-loop-target : goal.invariant-loop-target
invariant-loop-target l = AllRead (λ (t : Standing). (t.set ≢ Some l.set) → t.step + l.cost ≤ l.step) l.standings l.targets l.target-index
