use Rattle.command_lines.proofs.Sending.{sent}
use Rattle.command_lines.proofs.line.Output+W.member.Goals as goal

pub returns : goal.returns
returns g c = sent (sent c.name.ensures c.put_byte.ensures) c.name-2.ensures
