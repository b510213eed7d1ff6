use Rattle.settling.proofs.Entering.{FirstAdded}
use Rattle.settling.proofs.members.add_members.Given as goal

abbrev pub invariant-loop-name : goal.invariant-loop-name
invariant-loop-name l = FirstAdded l.meta l.members l.place l.fn.places l.name-index l.places
