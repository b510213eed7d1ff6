use Rattle.std.proofs.Common.{rules}
use Rattle.command_lines.proofs.Sending.{sent, none_sent, as_text}
use Rattle.command_lines.proofs.meta_line.Output+W.under.Goals as goal

pub returns-in-Some : goal.returns-in-Some
returns-in-Some g c = rw c.in-Some.is (sent c.put_word.ensures c.name.ensures)

pub returns-in_default : goal.returns-in_default
returns-in_default g c = as_text (none_sent g.W.Write.contents c.args.self.now) (search rules)
