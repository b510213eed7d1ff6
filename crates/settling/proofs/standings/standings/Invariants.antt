use Rattle.std.proofs.Common.{◌≡◌, ◌≤◌, ℕ, length, slice_get, Some}
use Rattle.settling.specs.declared.standings.Standing.{Standing}
use Rattle.settling.specs.code.Standings.{IsStandingAt}
use Rattle.settling.proofs.standings.standings.Given as goal

abbrev pub invariant-loop-number : goal.invariant-loop-number
invariant-loop-number l = record {
  inside : l.number ≤ length l.scan.nodes;
  count : length l.standings ≡ l.number;
  each : (n : ℕ) (s : Standing) → slice_get l.standings n ≡ Some s → IsStandingAt l.scan.nodes l.lines l.places l.sets n s;
}
