use Rattle.trace_tool.proofs.Itself.{comes-itself}
use Rattle.trace_tool.proofs.runs.run_outcome.Goals as goal

pub outcome-requires : goal.outcome-requires
outcome-requires g c = c.prepare_run.ensures.may

pub returns : goal.returns
returns g c = comes-itself (rw c.standard.ensures at c.prepare_run.ensures) c.outcome.ensures
