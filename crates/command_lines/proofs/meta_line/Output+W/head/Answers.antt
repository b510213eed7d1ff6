use Rattle.command_lines.proofs.Sending.{sent}
use Rattle.command_lines.proofs.meta_line.Output+W.head.Goals as goal

pub returns : goal.returns
returns g c =
    sent (sent (sent (sent (sent (sent (sent c.put_word.ensures c.name.ensures) c.under.ensures) c.put_byte.ensures)
    (rw c.method_offset.ensures at c.number.ensures)) c.put_byte-2.ensures) (rw c.len.ensures at c.number-2.ensures)) c.put_byte-3.ensures
