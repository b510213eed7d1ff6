use Rattle.command_lines.proofs.Sending.{sent}
use Rattle.command_lines.proofs.meta_line.Output+W.method.Goals as goal

pub returns : goal.returns
returns g c = sent (sent (sent c.number.ensures (rw c.work_text.ensures at c.put.ensures)) (rw c.deref.ensures at c.sig.ensures)) c.put_byte.ensures
