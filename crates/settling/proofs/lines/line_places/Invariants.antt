use Rattle.settling.proofs.Lining.{IsPlaced}
use Rattle.settling.proofs.lines.line_places.Given as goal

abbrev pub invariant-loop-place : goal.invariant-loop-place
invariant-loop-place l = IsPlaced l.meta l.lines l.place l.places l.apart
