use Rattle.std.proofs.Common.{length, ◌-◌, ◌+◌, ◌≤◌}
use Rattle.effect_scan.proofs.Listing.{HasFirst}
use Rattle.effect_scan.proofs.added.Added.of_both.Given as goal

abbrev pub invariant-loop-i : goal.invariant-loop-i
invariant-loop-i l = HasFirst l.first l.other l.i l.j l.numbers.items × (l.i ≤ length l.first) × (l.j ≤ length l.other)

abbrev pub decreases-loop-i : goal.decreases-loop-i
decreases-loop-i l = (length l.first - l.i) + (length l.other - l.j)
