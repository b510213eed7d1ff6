use Rattle.std.proofs.Common.{take, ◌++◌, codes}
use Rattle.std.specs.List.{flat_map}
use Rattle.command_lines.specs.Lines.{action_text}
use Rattle.command_lines.specs.Sent.{Puts}
use Rattle.command_lines.proofs.line.Output+W.actions.Given as goal

abbrev pub invariant-loop-action : goal.invariant-loop-action
invariant-loop-action g l =
    Puts g.W.Write.contents l.initial.self l.self
    (flat_map (λ b. codes ", " ++ action_text b) (take l.action-index l.rest))
