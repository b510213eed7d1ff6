use Rattle.std.proofs.Common.{refl, []}
use Rattle.std.proofs.lemmas.Bool.{cases_from_iff}
use Rattle.diagnostics.proofs.Tokens.{told_by_tokens}
use Rattle.diagnostics.proofs.line.has_tokens.Goals as goal

pub returns-in-Ok : goal.returns-in-Ok
returns-in-Ok c = told_by_tokens c.args.line.now c.in-Ok.tokens c.is_empty.result c.in-Ok.ensures.cut (cases_from_iff c.is_empty.ensures)

pub returns-in-Err-BadByte : goal.returns-in-Err-BadByte
returns-in-Err-BadByte c = λ none. rw c.in-Err-BadByte.field-0-is at c.in-Err-BadByte.ensures.refused refl [] none
