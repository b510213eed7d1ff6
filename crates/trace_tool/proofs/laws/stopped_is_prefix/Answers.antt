use Rattle.trace_tool.proofs.OneRun.{stopped_is_prefix}
use Rattle.trace_tool.proofs.laws.stopped_is_prefix.Goals as goal

pub returns : goal.returns
returns g c = stopped_is_prefix g.N.Answering.gives
