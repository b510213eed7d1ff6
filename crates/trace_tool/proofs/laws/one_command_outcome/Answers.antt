use Rattle.trace_tool.proofs.OneCommand.{one_command_outcome}
use Rattle.trace_tool.proofs.laws.one_command_outcome.Goals as goal

pub returns : goal.returns
returns g c = one_command_outcome g.N.Answering.gives
