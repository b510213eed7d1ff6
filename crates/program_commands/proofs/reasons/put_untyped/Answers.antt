use Rattle.command_lines.proofs.Sending.{sent}
use Rattle.program_commands.proofs.reasons.put_untyped.Goals as goal

pub returns : goal.returns
returns g c = sent (sent c.put.ensures c.put_spot.ensures) c.put-2.ensures
