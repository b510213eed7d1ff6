use Rattle.command_lines.proofs.Sending.{sent}
use Rattle.command_lines.proofs.connection_line.Output+W.ends.Goals as goal

pub returns : goal.returns
returns g c = sent (rw c.deref.ensures at c.end.ensures) (sent c.put_byte.ensures (rw c.deref-2.ensures at c.end-2.ensures))
