use Rattle.std.proofs.Common.{length}
use Rattle.traces.proofs.diagrams.diagram.sequence_diagram.Given as goal

-- what is left gets shorter
abbrev pub decreases-loop-line : goal.decreases-loop-line
decreases-loop-line l = length l.left
