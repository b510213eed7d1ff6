use Rattle.std.proofs.lemmas.Result.{err_from_is_err_and}
use Rattle.rank_check.proofs.judging.judge_scanned.Goals as goal

pub returns-in_err-judge_program-clause-cause : goal.returns-in_err-judge_program-clause-cause
returns-in_err-judge_program-clause-cause c =
    let p = err_from_is_err_and c.from_residual.result c.from_residual.ensures.1 in
    rw (p.1, p.2) (c.in_err-judge_program.ensures.certificates c.args.certificate.now)
