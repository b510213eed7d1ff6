use Rattle.command_lines.proofs.Sending.{none_so_far, sent, more_so_far}
use Rattle.command_lines.proofs.meta_line.Output+W.other_types.Goals as goal

pub loop-kind-preserved : goal.loop-kind-preserved
loop-kind-preserved g c =
    let split = c.in-Some.ensures.cases.0 in
    more_so_far (rw split at c.loop-kind.invariant) (sent c.put_byte.ensures c.kind.ensures)

pub loop-kind-init : goal.loop-kind-init
loop-kind-init g c = none_so_far _ _ _
