use Rattle.std.proofs.Common.{rules}
use Rattle.command_lines.proofs.Sending.{sent, as_text}
use Rattle.command_lines.proofs.node_line.Output+W.property_in.Goals as goal

pub returns-in-Some : goal.returns-in-Some
returns-in-Some g c = rw c.in-Some.is (sent (sent c.name.ensures c.put_byte.ensures) c.name-in-Some.ensures)

pub returns-in_default : goal.returns-in_default
returns-in_default g c = as_text (sent c.name.ensures c.put_byte.ensures) (search rules)
