use Rattle.std.proofs.lemmas.Result.{err_from_is_err_and}
use Rattle.settling_texts.proofs.Certificates.{no_row_at_all, first_refused}
use Rattle.settling_texts.proofs.reader.first_row.Goals as goal

pub returns-in_err-after : goal.returns-in_err-after
returns-in_err-after c =
    let p = err_from_is_err_and c.from_residual.result c.from_residual.ensures.1 in
    rw (p.1, p.2) (first_refused c.args.text.now c.in_err-after.field-0.0 c.in_err-after.ensures.splits)

pub returns-in-None : goal.returns-in-None
returns-in-None c = no_row_at_all (rw c.in-None.is at c.in_ok-after.ensures.splits)
