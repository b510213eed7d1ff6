use Rattle.settling.specs.code.Members.{SetsFirst}
use Rattle.settling.proofs.members.set_places.Given as goal

abbrev pub invariant-loop-place : goal.invariant-loop-place
invariant-loop-place l = SetsFirst l.meta l.sets l.place l.places
