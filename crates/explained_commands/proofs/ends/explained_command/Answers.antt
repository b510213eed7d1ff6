use Rattle.std.proofs.Common.{sym}
use Rattle.trace_tool.proofs.Preparing.{carried-writes}
use Rattle.explained_commands.proofs.ends.explained_command.Goals as goal

pub returns-in-Ok-clause-answers : goal.returns-in-Ok-clause-answers
returns-in-Ok-clause-answers g c = carried-writes c.answer-answered.ensures.answers (sym c.in-Ok.is)

pub returns-in-Err-clause-answers : goal.returns-in-Err-clause-answers
returns-in-Err-clause-answers g c = carried-writes c.answer-answered.ensures.answers (sym c.in-Err.is)
