use Rattle.command_lines.proofs.Sending.{none_so_far, more_so_far}
use Rattle.command_lines.proofs.meta_line.Output+W.listed.Goals as goal

pub loop-class-preserved : goal.loop-class-preserved
loop-class-preserved g c = more_so_far (rw c.in-Some.ensures.cases.0 at c.loop-class.invariant) c.described.ensures

pub loop-class-init : goal.loop-class-init
loop-class-init g c = none_so_far _ _ _
