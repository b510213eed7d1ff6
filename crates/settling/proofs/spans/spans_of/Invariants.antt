use Rattle.settling.proofs.Tallying.{AreTallies}
use Rattle.settling.proofs.spans.spans_of.Given as goal

abbrev pub invariant-loop-standing : goal.invariant-loop-standing
invariant-loop-standing l = AreTallies l.sets l.standings l.standing-index l.spans
