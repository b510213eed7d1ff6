use Rattle.trace_tool.proofs.Lines.{undone_is_a_line}
use Rattle.trace_tool.proofs.laws.undone_is_a_line.Goals as goal

pub returns : goal.returns
returns g c = undone_is_a_line _
