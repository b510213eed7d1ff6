use Rattle.std.proofs.Common.{◌+◌, ◌≤◌, length}
use Rattle.diagnostics.proofs.Gathered.{PlacesSoFar}
use Rattle.diagnostics.proofs.Keyed.{KeysSoFar}
use Rattle.diagnostics.proofs.other_text.reading.read_places.Given as goal

abbrev pub invariant-loop-line : goal.invariant-loop-line
invariant-loop-line l = record {
  so_far : PlacesSoFar l.fn.text l.places l.number l.left l.last;
  keys : KeysSoFar l.keys l.places l.last;
  room : l.number + length l.left ≤ length l.fn.text;
}

abbrev pub decreases-loop-line : goal.decreases-loop-line
decreases-loop-line l = length l.left
