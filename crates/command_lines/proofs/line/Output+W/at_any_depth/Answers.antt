use Rattle.command_lines.proofs.Sending.{sent}
use Rattle.command_lines.proofs.line.Output+W.at_any_depth.Goals as goal

pub returns : goal.returns
returns g c = sent (sent (sent c.depth.ensures c.put_byte.ensures) c.entry_kind.ensures) c.put_byte-2.ensures
