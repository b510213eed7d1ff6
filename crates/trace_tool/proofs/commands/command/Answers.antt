use Rattle.trace_tool.proofs.Preparing.{carried-failed, carried-writes}
use Rattle.trace_tool.proofs.commands.command.Goals as goal

pub returns-clause-answers : goal.returns-clause-answers
returns-clause-answers g c = carried-writes c.answer-carried.ensures.answers c.sent.ensures.status

pub returns-clause-failed : goal.returns-clause-failed
returns-clause-failed g c = carried-failed c.answer-carried.ensures.answers c.sent.ensures.status c.sent.ensures.writing
