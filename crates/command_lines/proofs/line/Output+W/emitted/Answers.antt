use Rattle.command_lines.proofs.Sending.{sent}
use Rattle.command_lines.proofs.line.Output+W.emitted.Goals as goal

pub returns : goal.returns
returns g c = sent (sent c.put_word.ensures c.call.ensures) c.given.ensures
