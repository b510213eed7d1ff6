use Rattle.command_lines.proofs.Saying.{after_first, settling_run_of_limit}
use Rattle.command_lines.proofs.words.steps_of_settling_run.Goals as goal

pub returns-in_err-words-2-clause-said : goal.returns-in_err-words-2-clause-said
returns-in_err-words-2-clause-said c =
    rw c.from_residual-in_err-words-2.ensures
    (λ steps r. c.in_err-words-2.ensures _ (after_first _ _ _ _ _ c.in_ok-words.ensures r.are))

pub returns-clause-said : goal.returns-clause-said
returns-clause-said c = settling_run_of_limit _ _ _ c.limit.result c.in_ok-words.ensures c.in_ok-words-2.ensures c.limit.ensures.said
