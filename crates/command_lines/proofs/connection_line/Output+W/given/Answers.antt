use Rattle.command_lines.proofs.Sending.{sent}
use Rattle.command_lines.proofs.connection_line.Output+W.given.Goals as goal

pub returns-then-given : goal.returns-then-given
returns-then-given g c = rw c.if-given.true (sent c.put_byte.ensures c.put.ensures)
