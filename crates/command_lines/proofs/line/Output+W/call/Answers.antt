use Rattle.command_lines.proofs.Sending.{sent}
use Rattle.command_lines.proofs.line.Output+W.call.Goals as goal

pub returns : goal.returns
returns g c = sent (sent (sent c.member.ensures c.put_byte.ensures) c.arguments.ensures) c.put_byte-2.ensures
