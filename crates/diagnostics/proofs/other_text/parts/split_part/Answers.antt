use Rattle.std.proofs.Common.{subst}
use Rattle.memchr.specs.Find.{is_byte, IsFirstByte}
use Rattle.diagnostics.proofs.Parting.{ended_part, last_part}
use Rattle.diagnostics.proofs.other_text.parts.split_part.Goals as goal

pub returns-in-Some-clause-part : goal.returns-in-Some-clause-part
returns-in-Some-clause-part c =
    let text = c.args.text.now in
    ended_part text c.in-Some.at (subst (λ r. IsFirstByte (is_byte 9) text r) c.in-Some.is c.memchr.ensures)

pub returns-in-None-clause-part : goal.returns-in-None-clause-part
returns-in-None-clause-part c =
    let text = c.args.text.now in
    last_part text (subst (λ r. IsFirstByte (is_byte 9) text r) c.in-None.is c.memchr.ensures)
