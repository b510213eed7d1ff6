use Rattle.command_lines.specs.Lines.{entry_line}
use Rattle.command_lines.proofs.Sending.{one_item}
use Rattle.command_lines.proofs.line.Output+W.entries.Goals as goal

pub loop-entry-preserved : goal.loop-entry-preserved
loop-entry-preserved g c = one_item entry_line _ _ _ c.entry-item.result c.loop-entry-test.true c.entry-item.is c.loop-entry.invariant c.entry.ensures
