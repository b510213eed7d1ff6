use Rattle.command_lines.proofs.Sending.{sent}
use Rattle.command_lines.proofs.connection_line.Output+W.end.Goals as goal

pub returns : goal.returns
returns g c = sent c.name.ensures (sent c.put_byte.ensures c.sig.ensures)
