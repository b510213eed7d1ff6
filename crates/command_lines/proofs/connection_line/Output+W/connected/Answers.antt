use Rattle.command_lines.proofs.Sending.{sent}
use Rattle.command_lines.proofs.connection_line.Output+W.connected.Goals as goal

pub returns : goal.returns
returns g c = sent c.put_word.ensures (sent c.ends.ensures (sent c.put_byte.ensures c.connection_type.ensures))
