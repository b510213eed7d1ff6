use Rattle.std.proofs.Common.{List, Err, subst}
use Rattle.std.proofs.lemmas.Result.{err_from_is_err_and}
use Rattle.texts.specs.declared.token.Token.{Token}
use Rattle.settling_texts.specs.code.Reads.{ReadsHeader, ReadsWholeDepth}
use Rattle.settling_texts.proofs.Certificates.{no_first_row, no_header, no_second_row, no_depth_line, no_rows, settling_read}
use Rattle.settling_texts.proofs.reader.read_settling_certificate.Goals as goal

pub returns-in_err-after : goal.returns-in_err-after
returns-in_err-after c =
    let p = err_from_is_err_and c.from_residual-in_err-after.result c.from_residual-in_err-after.ensures.1 in
    rw (p.1, p.2) (no_first_row c.args.bytes.now c.in_err-after.field-0.0 c.in_err-after.ensures)

pub returns-in_err-header : goal.returns-in_err-header
returns-in_err-header c =
    let p = err_from_is_err_and c.from_residual-in_err-header.result c.from_residual-in_err-header.ensures.1 in
    rw (p.1, p.2) (no_header c.in_ok-after.ensures c.in_err-header.field-0.0 (subst (λ (ts : List Token). ReadsHeader ts (Err c.in_err-header.field-0.0)) c.tokens.ensures c.in_err-header.ensures))

pub returns-in_err-rest : goal.returns-in_err-rest
returns-in_err-rest c =
    let p = err_from_is_err_and c.from_residual-in_err-rest.result c.from_residual-in_err-rest.ensures.1 in
    rw (p.1, p.2) (no_second_row c.in_ok-after.ensures c.in_err-rest.field-0.0 c.in_err-rest.ensures)

pub returns-in_err-depth : goal.returns-in_err-depth
returns-in_err-depth c =
    let p = err_from_is_err_and c.from_residual-in_err-depth.result c.from_residual-in_err-depth.ensures.1 in
    rw (p.1, p.2) (no_depth_line c.in_ok-after.ensures c.in_ok-rest.ensures c.in_err-depth.field-0.0 (subst (λ (ts : List Token). ReadsWholeDepth ts (Err c.in_err-depth.field-0.0)) c.tokens-2.ensures c.in_err-depth.ensures))

pub returns-in_err-lines : goal.returns-in_err-lines
returns-in_err-lines c =
    let p = err_from_is_err_and c.from_residual-in_err-lines.result c.from_residual-in_err-lines.ensures.1 in
    rw (p.1, p.2) (no_rows c.in_ok-after.ensures c.in_ok-rest.ensures c.in_err-lines.field-0.0 c.in_err-lines.ensures)

pub returns : goal.returns
returns c =
    settling_read c.in_ok-after.ensures c.in_ok-rest.ensures (rw c.tokens.ensures at c.in_ok-header.ensures) (rw c.tokens-2.ensures at c.in_ok-depth.ensures) c.in_ok-lines.ensures
