use Rattle.command_lines.proofs.Sending.{sent}
use Rattle.command_lines.proofs.line.Output+W.accepted.Goals as goal

pub returns : goal.returns
returns g c = sent (sent c.put_word.ensures c.number.ensures) c.put_byte.ensures
