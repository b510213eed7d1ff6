use Rattle.meta_objects.proofs.Repeats.{NoneRepeats}
use Rattle.meta_objects.proofs.clashes.first_repeated.Given as goal

abbrev pub invariant-loop-place : goal.invariant-loop-place
invariant-loop-place g l = NoneRepeats g.T.Alike.alike l.items l.place
