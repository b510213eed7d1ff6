use Rattle.command_lines.proofs.Sending.{sent}
use Rattle.command_lines.proofs.connection_line.Output+W.connection_type.Goals as goal

pub returns : goal.returns
returns g c = sent (rw c.kind_text.ensures at c.put.ensures) (sent c.given.ensures c.given-2.ensures)
