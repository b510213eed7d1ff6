use Rattle.command_lines.proofs.Sending.{sent}
use Rattle.command_lines.proofs.meta_line.Output+W.types.Goals as goal

pub returns : goal.returns
returns g c = rw c.in-Some.ensures.cases.0 (sent c.kind.ensures c.other_types.ensures)
