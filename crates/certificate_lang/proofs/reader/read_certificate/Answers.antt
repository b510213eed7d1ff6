use Rattle.std.proofs.lemmas.Result.{err_from_is_err_and}
use Rattle.certificate_lang.proofs.Certificates.{other_version, certificate_read, header_refused, bound_refused, lines_refused}
use Rattle.certificate_lang.proofs.reader.read_certificate.Goals as goal

pub returns-in_err-number : goal.returns-in_err-number
returns-in_err-number c =
    let p = err_from_is_err_and c.from_residual-in_err-number.result c.from_residual-in_err-number.ensures.1 in
    rw (p.1, p.2) (header_refused c.args.bytes.now c.in_err-number.field-0.0 c.in_err-number.ensures)

pub returns-in_default : goal.returns-in_default
returns-in_default c = other_version c.in_ok-number.ensures (rw c.in_default.is at c.of.ensures)

pub returns-in_err-bound : goal.returns-in_err-bound
returns-in_err-bound c =
    let p = err_from_is_err_and c.from_residual-in_err-bound.result c.from_residual-in_err-bound.ensures.1 in
    rw (p.1, p.2) (bound_refused c.in_ok-number.ensures c.in_err-bound.field-0.0 c.in_err-bound.ensures)

pub returns-in_err-lines : goal.returns-in_err-lines
returns-in_err-lines c =
    let p = err_from_is_err_and c.from_residual-in_err-lines.result c.from_residual-in_err-lines.ensures.1 in
    rw (p.1, p.2) (lines_refused c.in_ok-number.ensures c.in_ok-bound.ensures c.in-Some.version (rw c.in-Some.is at c.of.ensures) c.in_err-lines.field-0.0 c.in_err-lines.ensures)

pub returns : goal.returns
returns c = certificate_read c.in_ok-number.ensures c.in_ok-bound.ensures c.in-Some.version (rw c.in-Some.is at c.of.ensures) c.in_ok-lines.ensures
