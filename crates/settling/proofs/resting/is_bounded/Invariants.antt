use Rattle.std.proofs.Common.{◌<◌, ◌≤◌}
use Rattle.settling.specs.declared.certificate.SettlingLine.{SettlingLine}
use Rattle.settling.proofs.Passing.{AllFirst}
use Rattle.settling.proofs.resting.is_bounded.Given as goal

abbrev pub invariant-loop-line : goal.invariant-loop-line
invariant-loop-line l = AllFirst (λ k (line : SettlingLine). (line.rank < l.certificate.bound) × (line.step ≤ l.certificate.step)) l.certificate.lines l.line-index
