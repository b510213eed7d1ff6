use Rattle.command_lines.proofs.Sending.{sent}
use Rattle.command_lines.proofs.line.Output+W.changed.Goals as goal

pub returns : goal.returns
returns g c = sent c.put_word.ensures (sent (sent c.member.ensures c.put_byte.ensures) c.value.ensures)
