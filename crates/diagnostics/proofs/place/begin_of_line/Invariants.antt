use Rattle.std.proofs.Common.{◌≤◌, ◌<◌, ◌≢◌, ℕ, get_or}
use Rattle.diagnostics.proofs.place.begin_of_line.Given as goal

abbrev pub invariant-loop-begin : goal.invariant-loop-begin
invariant-loop-begin l = record {
  reached : l.begin ≤ l.at;
  unbroken : (k : ℕ) → l.begin ≤ k → k < l.at → get_or l.text k 0 ≢ 10;
}

abbrev pub decreases-loop-begin : goal.decreases-loop-begin
decreases-loop-begin l = l.begin
