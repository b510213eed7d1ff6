use Rattle.command_lines.proofs.Sending.{sent}
use Rattle.command_lines.proofs.meta_line.Output+W.property.Goals as goal

pub returns : goal.returns
returns g c = sent (sent (sent (sent (sent c.put_word.ensures c.name.ensures) c.put_byte.ensures) c.kind.ensures) c.notify.ensures) c.put_byte-2.ensures
