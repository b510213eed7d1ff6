use Rattle.std.proofs.lemmas.Result.{err_from_is_err_and}
use Rattle.slot_lang.proofs.Paths.{no_target, target_found, target_short}
use Rattle.slot_lang.proofs.path.target.Goals as goal

pub returns-in_err-path-clause-reads : goal.returns-in_err-path-clause-reads
returns-in_err-path-clause-reads c =
    let p = err_from_is_err_and c.from_residual.result c.from_residual.ensures.1 in
    rw (p.1, p.2) (λ k. no_target (c.in_err-path.ensures.reads k))

pub returns-in-Some-clause-reads : goal.returns-in-Some-clause-reads
returns-in-Some-clause-reads c = target_found c.in_ok-path.ensures.reads c.pop.new.self c.in-Some.member c.in-Some.ensures

pub returns-in-None-clause-reads : goal.returns-in-None-clause-reads
returns-in-None-clause-reads c = λ k. target_short c.in_ok-path.ensures.reads c.in-None.ensures.0
