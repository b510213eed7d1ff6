use Rattle.command_lines.proofs.Sending.{sent}
use Rattle.command_lines.proofs.meta_line.Output+W.kind.Goals as goal

pub returns : goal.returns
returns g c = sent (rw c.const_text.ensures at c.put.ensures) (sent c.name.ensures (rw c.star_text.ensures at c.put-2.ensures))
