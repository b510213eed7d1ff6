use Rattle.std.proofs.Common.{length}
use Rattle.explained_commands.proofs.explanations.usage.spoilt_parting.Given as goal

abbrev pub decreases-loop-line : goal.decreases-loop-line
decreases-loop-line l = length l.left
