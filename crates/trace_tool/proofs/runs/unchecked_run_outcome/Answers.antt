use Rattle.trace_tool.proofs.Itself.{comes-itself}
use Rattle.trace_tool.proofs.runs.unchecked_run_outcome.Goals as goal

pub outcome-requires : goal.outcome-requires
outcome-requires g c = c.prepare_unchecked_run.ensures.may

pub returns : goal.returns
returns g c = comes-itself c.prepare_unchecked_run.ensures c.outcome.ensures
