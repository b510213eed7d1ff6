use Rattle.std.proofs.Common.{rules}
use Rattle.command_lines.proofs.Sending.{none_sent, as_text}
use Rattle.trace_tool.proofs.any_machine.outcome.Outcome.put.Goals as goal

-- where a read failed nothing is written
pub returns-in-NoInput-Unread : goal.returns-in-NoInput-Unread
returns-in-NoInput-Unread g c = as_text (none_sent g.W.Write.contents c.args.output.now) (search rules)
