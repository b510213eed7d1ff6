use Rattle.trace_tool.proofs.Itself.{comes-itself}
use Rattle.trace_tool.proofs.settling_runs.settling_run_outcome.Goals as goal

pub outcome-requires : goal.outcome-requires
outcome-requires g c = c.prepare_settling_run.ensures.may

pub returns : goal.returns
returns g c = comes-itself (rw c.standard.ensures at c.prepare_settling_run.ensures) c.outcome.ensures
