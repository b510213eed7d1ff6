use Rattle.std.proofs.Common.{◌-◌, ◌≤◌, ◌<◌, ◌≢◌, ℕ, length, get_or}
use Rattle.diagnostics.proofs.place.end_of_line.Given as goal

abbrev pub invariant-loop-end : goal.invariant-loop-end
invariant-loop-end l = record {
  goes_on : l.at ≤ l.end;
  within : l.end ≤ length l.text;
  unbroken : (k : ℕ) → l.at ≤ k → k < l.end → get_or l.text k 0 ≢ 10;
}

abbrev pub decreases-loop-end : goal.decreases-loop-end
decreases-loop-end l = length l.text - l.end
