use Rattle.std.proofs.Common.{◌≡◌, ◌⊎◌, ℕ, ◌+◌, ◌<◌, length}
use Rattle.settling_make.specs.Fits.{at_place}
use Rattle.settling_make.proofs.limits.just_above.Given as goal

abbrev pub invariant-loop-rank : goal.invariant-loop-rank
invariant-loop-rank l = record {
  above : (a : ℕ) → a < l.rank-index → at_place l.ranks a < l.bound;
  least : (l.bound ≡ 0) ⊎ ((a : ℕ) × (a < length l.ranks) × (at_place l.ranks a + 1 ≡ l.bound));
}
