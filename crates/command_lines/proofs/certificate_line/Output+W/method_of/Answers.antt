use Rattle.command_lines.proofs.Sending.{sent}
use Rattle.command_lines.proofs.certificate_line.Output+W.method_of.Goals as goal

pub returns : goal.returns
returns g c = sent (sent c.name.ensures c.put_byte.ensures) c.sig.ensures
