use Rattle.std.proofs.Common.{take}
use Rattle.command_lines.specs.Lines.{trace_text}
use Rattle.command_lines.specs.Sent.{Puts}
use Rattle.command_lines.proofs.line.Output+W.entries.Given as goal

abbrev pub invariant-loop-entry : goal.invariant-loop-entry
invariant-loop-entry g l =
    Puts g.W.Write.contents l.initial.self l.self (trace_text (take l.entry-index l.entries))
