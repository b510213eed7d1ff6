use Rattle.std.proofs.Common.{◌++◌, codes, ap}
use Rattle.command_lines.specs.Lines.{newline, member_text, value_text}
use Rattle.command_lines.proofs.Sending.{sent, as_text, gathered}
use Rattle.command_lines.proofs.line.Output+W.change_line.Goals as goal

pub returns : goal.returns
returns g c =
    let member = member_text c.args.object.now c.args.property.now in
    as_text (sent (sent c.put_member.ensures c.value.ensures) c.put_byte.ensures) (ap (λ l. l ++ newline) (gathered c.args.word.now member (codes " ") (value_text c.args.value.now)))
