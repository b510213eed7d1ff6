use Rattle.std.proofs.Common.{rules}
use Rattle.command_lines.proofs.Sending.{finished}
use Rattle.program_commands.proofs.outcome.Outcome.write.Goals as goal

pub returns : goal.returns
returns g c = finished c.new-output.ensures.begun c.put.ensures (rw c.status.ensures at c.finish.ensures) (search rules)
