use Rattle.std.proofs.Common.{◌≡◌, ◌∙◌, List, Err, subst}
use Rattle.std.proofs.lemmas.Result.{err_from_is_err_and}
use Rattle.texts.specs.declared.token.Token.{Token}
use Rattle.certificate_lang.specs.code.Reads.{ReadsLine}
use Rattle.certificate_lang.proofs.Certificates.{lines_end, line_next, next_refused, line_refused}
use Rattle.certificate_lang.proofs.reader.node_lines.Goals as goal

pub returns-in_err-after : goal.returns-in_err-after
returns-in_err-after c =
    let p = err_from_is_err_and c.from_residual.result c.from_residual.ensures.1 in
    rw (p.1, p.2) (next_refused c.loop-lines.invariant c.in_err-after.field-0.0 c.in_err-after.ensures.splits)

pub returns-in_err-line : goal.returns-in_err-line
returns-in_err-line c =
    let p = err_from_is_err_and c.from_residual-in_err-line.result c.from_residual-in_err-line.ensures.1 in
    let takes = rw c.in-Some.is at c.in_ok-after.ensures.splits in
    rw (p.1, p.2) (line_refused c.loop-lines.invariant takes c.in_err-line.field-0.0 (subst (λ (ts : List Token). ReadsLine c.args.version ts (Err c.in_err-line.field-0.0)) c.tokens.ensures c.in_err-line.ensures))

pub loop-lines-preserved : goal.loop-lines-preserved
loop-lines-preserved c =
    let takes = rw c.in-Some.is at c.in_ok-after.ensures.splits in
    rw c.in_ok-add.ensures (line_next c.loop-lines.invariant takes (rw c.tokens.ensures at c.in_ok-line.ensures))

pub returns : goal.returns
returns c =
    let is : c.from_vec.result ≡ c.loop-lines.lines.items = c.from_vec.ensures ∙ c.shrink_to_fit.ensures.items in
    rw is (lines_end c.loop-lines.invariant (rw c.in_default.is at c.in_ok-after.ensures.splits))
