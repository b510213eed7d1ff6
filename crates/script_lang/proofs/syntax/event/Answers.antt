use Rattle.std.proofs.lemmas.Result.{err_from_is_err_and}
use Rattle.script_lang.proofs.Events.{event_reads, no_verb}
use Rattle.script_lang.proofs.syntax.event.Goals as goal

pub returns-in_err-verb : goal.returns-in_err-verb
returns-in_err-verb c =
    let p = err_from_is_err_and c.from_residual.result c.from_residual.ensures.1 in
    rw (p.1, p.2) (λ k. no_verb (c.in_err-verb.ensures k))

pub returns : goal.returns
returns c = event_reads c.in_ok-verb.ensures c.follow.new.cursor c.follow.result c.follow.ensures
