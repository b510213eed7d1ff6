use Rattle.std.proofs.lemmas.Result.{err_from_is_err_and}
use Rattle.certificate_lang.proofs.Certificates.{is_so, is_not_so}
use Rattle.settling_texts.proofs.Certificates.{set_refused, line_refused}
use Rattle.settling_texts.proofs.row.row.Goals as goal

pub returns-in_err-set : goal.returns-in_err-set
returns-in_err-set c =
    let p = err_from_is_err_and c.from_residual.result c.from_residual.ensures.1 in
    let at = is_so c.is_at_number.result c.if-is_at_number.true c.is_at_number.ensures in
    rw (p.1, p.2) (set_refused at c.in_err-set.field-0.0 c.in_err-set.ensures)

pub returns-in_err-line : goal.returns-in_err-line
returns-in_err-line c =
    let p = err_from_is_err_and c.from_residual-in_err-line.result c.from_residual-in_err-line.ensures.1 in
    let off = is_not_so c.is_at_number.result c.if-is_at_number.false c.is_at_number.ensures in
    rw (p.1, p.2) (line_refused off c.in_err-line.field-0.0 c.in_err-line.ensures)
