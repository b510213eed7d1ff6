use Rattle.std.proofs.Common.{rules}
use Rattle.command_lines.proofs.Sending.{sent, as_text}
use Rattle.program_commands.proofs.reasons.put_binding.Goals as goal

pub returns-in-Some : goal.returns-in-Some
returns-in-Some g c = as_text (sent c.put.ensures c.name.ensures) (search rules)
