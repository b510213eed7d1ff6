use Rattle.command_lines.proofs.Sending.{sent}
use Rattle.command_lines.proofs.certificate_line.Output+W.certificate_head.Goals as goal

pub returns : goal.returns
returns g c = sent c.put_word.ensures c.numbered.ensures
