use Rattle.std.proofs.Common.{List, Err, subst}
use Rattle.std.proofs.lemmas.Result.{err_from_is_err_and}
use Rattle.texts.specs.declared.token.Token.{Token}
use Rattle.certificate_lang.specs.code.Reads.{ReadsWholeSetting}
use Rattle.certificate_lang.proofs.Certificates.{no_row_set, row_refused, setting_refused}
use Rattle.certificate_lang.proofs.reader.setting_line.Goals as goal

pub returns-in_err-after : goal.returns-in_err-after
returns-in_err-after c =
    let p = err_from_is_err_and c.from_residual.result c.from_residual.ensures.1 in
    rw (p.1, p.2) (row_refused c.args.name.now c.args.text.now c.in_err-after.field-0.0 c.in_err-after.ensures.splits)

pub returns-in_err-number-in-Some : goal.returns-in_err-number-in-Some
returns-in_err-number-in-Some c =
    let p = err_from_is_err_and c.from_residual-in_err-number-in-Some.result c.from_residual-in_err-number-in-Some.ensures.1 in
    let takes = rw c.in-Some.is at c.in_ok-after.ensures.splits in
    rw (p.1, p.2) (setting_refused c.args.name.now takes c.in_err-number-in-Some.field-0.0 (subst (λ (ts : List Token). ReadsWholeSetting c.args.name.now ts (Err c.in_err-number-in-Some.field-0.0)) c.tokens.ensures c.in_err-number-in-Some.ensures))

pub returns-in-None : goal.returns-in-None
returns-in-None c = no_row_set (rw c.in-None.is at c.in_ok-after.ensures.splits)
