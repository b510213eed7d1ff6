use Rattle.command_lines.proofs.Sending.{sent}
use Rattle.command_lines.proofs.node_line.Output+W.node_in.Goals as goal

pub returns-in-Destruction : goal.returns-in-Destruction
returns-in-Destruction g c = rw c.in-Destruction.is (sent c.put_byte.ensures c.name.ensures)
