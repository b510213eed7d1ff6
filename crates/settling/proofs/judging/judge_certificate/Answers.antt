use Rattle.std.proofs.lemmas.Result.{err_from_is_err_and}
use Rattle.settling.proofs.judging.judge_certificate.Goals as goal

pub returns-in_err-tables : goal.returns-in_err-tables
returns-in_err-tables c =
    let p = err_from_is_err_and c.from_residual-in_err-tables.result c.from_residual-in_err-tables.ensures.1 in
    rw (p.1, p.2) (c.in_err-tables.ensures c.requires)
