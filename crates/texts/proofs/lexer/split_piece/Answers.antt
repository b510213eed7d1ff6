use Rattle.std.proofs.Common.{sym}
use Rattle.std.proofs.lemmas.Result.{err_from_is_err_and}
use Rattle.texts.proofs.FirstPieces.{blank_cut, comment_cut, are_name, letters_cut, number_cut, text_cut, symbol_cut, no_comment, no_text, no_other, no_front_at_end, empty}
use Rattle.texts.proofs.lexer.split_piece.Goals as goal

pub returns-in_default-clause-cut : goal.returns-in_default-clause-cut
returns-in_default-clause-cut c = λ e. no_front_at_end c.args.bytes.now (empty c.args.bytes.now c.in_default.ensures.cases)

pub returns-in-Blank-clause-cut : goal.returns-in-Blank-clause-cut
returns-in-Blank-clause-cut c = blank_cut c.args.bytes.now c.in-Some.first.now c.in-Some.after.now c.in-Some.ensures.cases.0 (sym c.in-Blank.ensures)

pub returns-in_err-rest-in-Slash-clause-cut : goal.returns-in_err-rest-in-Slash-clause-cut
returns-in_err-rest-in-Slash-clause-cut c =
    let p = err_from_is_err_and c.from_residual.result c.from_residual.ensures.1 in
    rw (p.1, p.2) (λ e. no_comment c.args.bytes.now c.in-Some.first.now c.in-Some.after.now c.in-Some.ensures.cases.0 (sym c.in-Slash.ensures) c.in_err-rest-in-Slash.ensures.1)

pub returns-in_ok-rest-in-Slash-clause-cut : goal.returns-in_ok-rest-in-Slash-clause-cut
returns-in_ok-rest-in-Slash-clause-cut c =
    comment_cut c.args.bytes.now c.in-Some.first.now c.in-Some.after.now c.in-Some.ensures.cases.0 c.in_ok-rest-in-Slash.rest.now (sym c.in-Slash.ensures) c.in_ok-rest-in-Slash.ensures

pub returns-in_ok-token-in-Letter-clause-cut : goal.returns-in_ok-token-in-Letter-clause-cut
returns-in_ok-token-in-Letter-clause-cut c =
    letters_cut c.args.bytes.now c.in-Some.first.now c.in-Some.after.now c.in-Some.ensures.cases.0 c.in_ok-token-in-Letter.token c.split_run.result.0.now c.split_run.result.1.now (sym c.in-Letter.ensures) c.split_run.ensures c.in_ok-token-in-Letter.ensures

pub word_or_name-requires : goal.word_or_name-requires
word_or_name-requires c = are_name c.args.bytes.now c.in-Some.first.now c.in-Some.after.now c.in-Some.ensures.cases.0 c.split_run.result.0.now c.split_run.result.1.now (sym c.in-Letter.ensures) c.split_run.ensures

pub returns-in_ok-number-in-Digit-clause-cut : goal.returns-in_ok-number-in-Digit-clause-cut
returns-in_ok-number-in-Digit-clause-cut c =
    rw c.in_ok-number-in-Digit.ensures (number_cut c.args.bytes.now c.in-Some.first.now c.in-Some.after.now c.in-Some.ensures.cases.0 c.split_run-in-Digit.result.0.now c.split_run-in-Digit.result.1.now (sym c.in-Digit.ensures) c.split_run-in-Digit.ensures)

pub returns-in_err-inner-in-Quote-clause-cut : goal.returns-in_err-inner-in-Quote-clause-cut
returns-in_err-inner-in-Quote-clause-cut c =
    let p = err_from_is_err_and c.from_residual-in_err-inner-in-Quote.result c.from_residual-in_err-inner-in-Quote.ensures.1 in
    rw (p.1, p.2) (λ e. no_text c.args.bytes.now c.in-Some.first.now c.in-Some.after.now c.in-Some.ensures.cases.0 (sym c.in-Quote.ensures) c.in_err-inner-in-Quote.ensures.1)

pub returns-in_ok-text-in-Quote-clause-cut : goal.returns-in_ok-text-in-Quote-clause-cut
returns-in_ok-text-in-Quote-clause-cut c =
    rw c.in_ok-text-in-Quote.ensures (text_cut c.args.bytes.now c.in-Some.first.now c.in-Some.after.now c.in-Some.ensures.cases.0 c.in_ok-inner-in-Quote.inner.now c.in_ok-inner-in-Quote.rest.now (sym c.in-Quote.ensures) c.in_ok-inner-in-Quote.ensures)

pub returns-in-Some-split_symbol-clause-cut : goal.returns-in-Some-split_symbol-clause-cut
returns-in-Some-split_symbol-clause-cut c = symbol_cut c.args.bytes.now c.in-Some-split_symbol.symbol c.in-Some-split_symbol.rest.now c.in-Some-split_symbol.ensures

pub returns-in-None-clause-cut : goal.returns-in-None-clause-cut
returns-in-None-clause-cut c = λ e. no_other c.args.bytes.now c.in-Some.first.now c.in-Some.after.now c.in-Some.ensures.cases.0 (sym c.in-Other.ensures) c.in-None.ensures
