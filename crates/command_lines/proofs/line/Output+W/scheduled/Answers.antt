use Rattle.command_lines.proofs.Sending.{sent}
use Rattle.command_lines.proofs.line.Output+W.scheduled.Goals as goal

pub returns : goal.returns
returns g c = sent (sent (sent c.put_word.ensures c.name.ensures) c.put_word-2.ensures) c.name-2.ensures
