use Rattle.command_lines.proofs.Saying.{run_of_limit}
use Rattle.command_lines.proofs.words.steps_of_run.Goals as goal

pub returns-clause-said : goal.returns-clause-said
returns-clause-said c = run_of_limit _ _ c.limit.result c.in_ok-words.ensures c.limit.ensures.said
