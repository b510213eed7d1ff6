use Rattle.command_lines.proofs.Sending.{sent}
use Rattle.command_lines.proofs.meta_line.Output+W.class.Goals as goal

pub returns : goal.returns
returns g c =
    sent (sent c.head.ensures (rw (c.method_offset.ensures, c.as_slice.ensures) at c.methods.ensures))
    (rw (c.behind_front-own.ensures, c.property_offset.ensures, c.as_slice-2.ensures) at c.properties.ensures)
