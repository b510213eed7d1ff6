use Rattle.command_lines.proofs.Sending.{sent, kept_back}
use Rattle.command_lines.proofs.output.Output+W.pass_on.Goals as goal

pub returns-then-not-add : goal.returns-then-not-add
returns-then-not-add g c = sent (rw c.if-add_grown.ensures.full at c.send.ensures.puts) (rw c.if-not-add.ensures.full at c.write.ensures)

pub returns-else-not-add : goal.returns-else-not-add
returns-else-not-add g c = sent (rw c.if-add_grown.ensures.full at c.send.ensures.puts) (kept_back _ _ _ _ c.if-not-add.ensures.added)
