use Rattle.std.proofs.Common.{◌≡◌, ◌∙◌, []}
use Rattle.slot_lang.proofs.Precedences.{expression_ends_at_end}
use Rattle.slot_lang.proofs.expression.parse_expr.Goals as goal

pub returns-clause-refused : goal.returns-clause-refused
returns-clause-refused c = λ q e h.
    let at_end : c.expression.new.cursor ≡ [] = c.in_ok-expression.ensures.reads.only h.reading [] expression_ends_at_end (c.new-cursor.ensures ∙ h.spelled) in
    let k = c.if-is_empty.ensures.1 at_end in
    cc
