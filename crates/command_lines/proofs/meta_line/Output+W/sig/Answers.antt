use Rattle.command_lines.proofs.Sending.{sent}
use Rattle.command_lines.proofs.meta_line.Output+W.sig.Goals as goal

pub returns : goal.returns
returns g c = sent c.name.ensures (sent c.put_byte.ensures (sent (rw c.as_slice.ensures at c.types.ensures) c.put_byte-2.ensures))
