use Rattle.std.proofs.Common.{List, Err, subst}
use Rattle.std.proofs.lemmas.Result.{err_from_is_err_and}
use Rattle.texts.specs.declared.token.Token.{Token}
use Rattle.settling_texts.specs.code.Reads.{ReadsRow}
use Rattle.settling_texts.proofs.Certificates.{no_row_yet, rows_end, row_next, next_refused, row_refused}
use Rattle.settling_texts.proofs.reader.rows.Goals as goal

pub returns-in_err-after : goal.returns-in_err-after
returns-in_err-after c =
    let p = err_from_is_err_and c.from_residual.result c.from_residual.ensures.1 in
    rw (p.1, p.2) (next_refused c.loop-sets.invariant c.in_err-after.field-0.0 c.in_err-after.ensures.splits)

pub returns-in_err-said : goal.returns-in_err-said
returns-in_err-said c =
    let p = err_from_is_err_and c.from_residual-in_err-said.result c.from_residual-in_err-said.ensures.1 in
    let takes = rw c.in-Some.is at c.in_ok-after.ensures.splits in
    rw (p.1, p.2) (row_refused c.loop-sets.invariant takes c.in_err-said.field-0.0 (subst (λ (ts : List Token). ReadsRow ts (Err c.in_err-said.field-0.0)) c.tokens.ensures c.in_err-said.ensures))

pub loop-sets-init : goal.loop-sets-init
loop-sets-init c = rw (c.new-lines.ensures, c.new-sets.ensures) (no_row_yet c.args.text.now)

pub loop-sets-preserved : goal.loop-sets-preserved
loop-sets-preserved c =
    let takes = rw c.in-Some.is at c.in_ok-after.ensures.splits in
    rw (c.in_ok-add.ensures.lines, c.in_ok-add.ensures.sets) (row_next c.loop-sets.invariant takes c.in_ok-said.said (rw c.tokens.ensures at c.in_ok-said.ensures))

pub returns : goal.returns
returns c = rows_end c.loop-sets.invariant (rw c.in_default.is at c.in_ok-after.ensures.splits)
