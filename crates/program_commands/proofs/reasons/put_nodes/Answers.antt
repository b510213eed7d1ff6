use Rattle.command_lines.proofs.Sending.{sent}
use Rattle.program_commands.proofs.reasons.put_nodes.Goals as goal

pub returns : goal.returns
returns g c = sent (sent (sent c.put.ensures c.put-2.ensures) c.nodes.ensures) c.put-3.ensures
