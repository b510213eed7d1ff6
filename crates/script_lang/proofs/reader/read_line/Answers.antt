use Rattle.std.proofs.Common.{◌∙◌, ap, sym, Err}
use Rattle.std.proofs.lemmas.Result.{err_from_is_err_and}
use Rattle.script_lang.proofs.Scripts.{only_bad_byte, only_syntax, no_tokens, no_event, no_normal_form, more_than_event, many_types, event_line, is_so, is_not_so}
use Rattle.script_lang.proofs.reader.read_line.Goals as goal

pub returns-in_err-cut : goal.returns-in_err-cut
returns-in_err-cut c =
    let p = err_from_is_err_and c.from_residual.result c.from_residual.ensures.1 in
    rw p.1 (λ k. no_tokens (c.in_err-cut.ensures.refused (ap Err (only_bad_byte c.in_err-cut.field-0.0 (sym p.2 ∙ k)))))

pub returns-in_err-event : goal.returns-in_err-event
returns-in_err-event c =
    let p = err_from_is_err_and c.from_residual-in_err-event.result c.from_residual-in_err-event.ensures.1 in
    let same = c.new-cursor.ensures ∙ c.tokens.ensures in
    let some = is_not_so c.is_empty.result c.if-is_empty.false c.is_empty.ensures in
    rw p.1 (λ k. no_event c.in_ok-cut.ensures.cut (rw same at some) (rw same at (c.in_err-event.ensures (only_syntax c.in_err-event.field-0.0 (sym p.2 ∙ k)))))

pub returns-then-has_plain_reference : goal.returns-then-has_plain_reference
returns-then-has_plain_reference c =
    let same = c.new-cursor.ensures ∙ c.tokens.ensures in
    let some = is_not_so c.is_empty.result c.if-is_empty.false c.is_empty.ensures in
    let plain = is_so c.has_plain_reference.result c.if-has_plain_reference.true c.has_plain_reference.ensures in
    λ k. no_normal_form c.in_ok-cut.ensures.cut (rw same at some) (rw c.tokens-2.ensures at plain)

pub returns-then-not-is_empty : goal.returns-then-not-is_empty
returns-then-not-is_empty c =
    let same = c.new-cursor.ensures ∙ c.tokens.ensures in
    let some = is_not_so c.is_empty.result c.if-is_empty.false c.is_empty.ensures in
    let more = is_not_so c.is_empty-2.result (c.if-not-is_empty.true) c.is_empty-2.ensures in
    λ k. more_than_event c.in_ok-cut.ensures.cut (rw same at some) (rw same at c.in_ok-event.ensures) more

pub returns : goal.returns
returns c =
    let same = c.new-cursor.ensures ∙ c.tokens.ensures in
    let some = is_not_so c.is_empty.result c.if-is_empty.false c.is_empty.ensures in
    let end = is_so c.is_empty-2.result c.if-not-is_empty.false c.is_empty-2.ensures in
    let many = is_not_so c.event_has_few_types.result c.if-event_has_few_types.false c.event_has_few_types.ensures in
    λ k. many_types c.in_ok-cut.ensures.cut (rw same at c.in_ok-event.ensures) end (rw same at some) many

pub returns-then-event_has_few_types : goal.returns-then-event_has_few_types
returns-then-event_has_few_types c =
    let same = c.new-cursor.ensures ∙ c.tokens.ensures in
    let end = is_so c.is_empty-2.result c.if-not-is_empty.false c.is_empty-2.ensures in
    let few = is_so c.event_has_few_types.result c.if-event_has_few_types.true c.event_has_few_types.ensures in
    let normal = is_not_so c.has_plain_reference.result c.if-has_plain_reference.false c.has_plain_reference.ensures in
    event_line c.in_ok-cut.ensures.cut (rw same at c.in_ok-event.ensures) end few (rw c.tokens-2.ensures at normal)
