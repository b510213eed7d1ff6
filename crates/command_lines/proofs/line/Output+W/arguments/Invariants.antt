use Rattle.std.proofs.Common.{take, ◌++◌, codes}
use Rattle.std.specs.List.{flat_map}
use Rattle.command_lines.specs.Lines.{value_text}
use Rattle.command_lines.specs.Sent.{Puts}
use Rattle.command_lines.proofs.line.Output+W.arguments.Given as goal

abbrev pub invariant-loop-value : goal.invariant-loop-value
invariant-loop-value g l =
    Puts g.W.Write.contents l.initial.self l.self
    (flat_map (λ v. codes "," ++ value_text v) (take l.value-index l.rest))
