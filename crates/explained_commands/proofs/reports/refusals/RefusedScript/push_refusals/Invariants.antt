use Rattle.std.proofs.Common.{length}
use Rattle.explained_commands.proofs.reports.refusals.RefusedScript.push_refusals.Given as goal

abbrev pub decreases-loop-line : goal.decreases-loop-line
decreases-loop-line l = length l.left
