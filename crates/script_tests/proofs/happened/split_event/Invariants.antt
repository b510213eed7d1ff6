use Rattle.std.proofs.Common.{length}
use Rattle.script_tests.proofs.happened.split_event.Given as goal

-- what is left gets shorter
abbrev pub decreases-loop-line : goal.decreases-loop-line
decreases-loop-line l = length l.left
