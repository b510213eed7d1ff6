use Rattle.command_lines.proofs.Sending.{sent}
use Rattle.command_lines.proofs.line.Output+W.quoted.Goals as goal

pub returns : goal.returns
returns g c = sent (sent c.put_byte.ensures (rw c.bytes.ensures.value at c.put.ensures)) c.put_byte-2.ensures
