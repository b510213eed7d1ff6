use Rattle.command_lines.proofs.Sending.{sent}
use Rattle.command_lines.proofs.connection_line.Output+W.disconnected.Goals as goal

pub returns : goal.returns
returns g c = sent c.put_word.ensures c.ends.ensures
