use Rattle.command_lines.proofs.Sending.{sent}
use Rattle.command_lines.proofs.line.Output+W.refused_statement.Goals as goal

pub returns : goal.returns
returns g c = sent c.put_word.ensures c.number.ensures
