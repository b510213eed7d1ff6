use Rattle.command_lines.proofs.Sending.{sent}
use Rattle.command_lines.proofs.certificate_line.Output+W.tilde_name.Goals as goal

pub returns : goal.returns
returns g c = sent c.put_byte.ensures c.name.ensures
