use Rattle.std.proofs.Common.{sym, subst, ◌∙◌}
use Rattle.memchr.specs.Find.{is_byte, IsFirstByte}
use Rattle.texts.proofs.FirstLines.{ended_line, last_line, some_text}
use Rattle.texts.proofs.lines.split_line.Goals as goal

pub returns-in-Some-clause-line : goal.returns-in-Some-clause-line
returns-in-Some-clause-line c =
    let text = c.args.text.now in
    ended_line text c.in-Some.at (subst (λ r. IsFirstByte (is_byte 10) text r) c.in-Some.is c.memchr.ensures)

pub returns-in-None-clause-line : goal.returns-in-None-clause-line
returns-in-None-clause-line c =
    let text = c.args.text.now in
    let some = some_text text (sym c.if-is_empty.false ∙ c.is_empty.ensures) in
    last_line text some (subst (λ r. IsFirstByte (is_byte 10) text r) c.in-None.is c.memchr.ensures)
