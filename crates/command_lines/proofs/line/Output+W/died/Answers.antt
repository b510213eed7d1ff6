use Rattle.command_lines.proofs.Sending.{sent}
use Rattle.command_lines.proofs.line.Output+W.died.Goals as goal

pub returns : goal.returns
returns g c = sent c.put_word.ensures c.name.ensures
