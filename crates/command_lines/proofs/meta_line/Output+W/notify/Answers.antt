use Rattle.std.proofs.Common.{rules}
use Rattle.command_lines.proofs.Sending.{sent, none_sent, as_text}
use Rattle.command_lines.proofs.meta_line.Output+W.notify.Goals as goal

pub returns-in-Some-method : goal.returns-in-Some-method
returns-in-Some-method g c = as_text (sent c.put_word.ensures c.sig.ensures) (search rules)

pub returns-in_default-method : goal.returns-in_default-method
returns-in_default-method g c = as_text (none_sent g.W.Write.contents c.args.self.now) (search rules)
