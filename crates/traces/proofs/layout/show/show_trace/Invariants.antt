use Rattle.traces.proofs.Lines.{ShowsSoFar}
use Rattle.traces.proofs.layout.show.show_trace.Given as goal

abbrev pub invariant-loop : goal.invariant-loop
invariant-loop g l = ShowsSoFar l.fn.colours (g.R.Read.remaining l.initial.reader) (g.R.Read.remaining l.reader) (g.W.Write.contents l.initial.w) (g.W.Write.contents l.w)
