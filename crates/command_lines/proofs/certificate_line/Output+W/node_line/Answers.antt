use Rattle.command_lines.proofs.Sending.{sent}
use Rattle.command_lines.proofs.certificate_line.Output+W.node_line.Goals as goal

pub returns : goal.returns
returns g c = sent c.node.ensures (sent c.rank.ensures (sent (rw c.as_slice.ensures at c.destroyed.ensures) c.put_byte.ensures))
