use Rattle.std.proofs.Common.{rules}
use Rattle.command_lines.proofs.Sending.{none_sent, as_text}
use Rattle.command_lines.proofs.node_line.Output+W.node_of.Goals as goal

pub returns-in_default : goal.returns-in_default
returns-in_default g c = as_text (none_sent g.W.Write.contents c.args.self.now) (search rules)
