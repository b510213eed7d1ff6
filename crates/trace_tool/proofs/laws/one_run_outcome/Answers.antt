use Rattle.trace_tool.proofs.OneRun.{one_run_outcome, one_settling_run_outcome, one_unchecked_outcome}
use Rattle.trace_tool.proofs.laws.one_run_outcome.Goals as goal

pub returns-clause-checked : goal.returns-clause-checked
returns-clause-checked g c = one_run_outcome g.N.Answering.gives

pub returns-clause-settling : goal.returns-clause-settling
returns-clause-settling g c = one_settling_run_outcome g.N.Answering.gives

pub returns-clause-unchecked : goal.returns-clause-unchecked
returns-clause-unchecked g c = one_unchecked_outcome g.N.Answering.gives
