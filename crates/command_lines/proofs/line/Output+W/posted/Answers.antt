use Rattle.command_lines.proofs.Sending.{sent}
use Rattle.command_lines.proofs.line.Output+W.posted.Goals as goal

pub returns : goal.returns
returns g c = sent (sent (sent c.put_word.ensures c.name.ensures) c.put_byte.ensures) c.call.ensures
