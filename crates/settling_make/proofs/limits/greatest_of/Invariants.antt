use Rattle.std.proofs.Common.{◌≡◌, ◌⊎◌, ℕ, ◌<◌, ◌≤◌, length}
use Rattle.settling_make.specs.Fits.{at_place}
use Rattle.settling_make.proofs.limits.greatest_of.Given as goal

abbrev pub invariant-loop-step : goal.invariant-loop-step
invariant-loop-step l = record {
  above : (a : ℕ) → a < l.step-index → at_place l.steps a ≤ l.greatest;
  met : (l.greatest ≡ 0) ⊎ ((a : ℕ) × (a < length l.steps) × (at_place l.steps a ≡ l.greatest));
}
