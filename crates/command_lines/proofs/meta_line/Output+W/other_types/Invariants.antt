use Rattle.std.proofs.Common.{length}
use Rattle.basic_types.specs.Spelling.{text_of_others}
use Rattle.command_lines.proofs.Sending.{SentSoFar}
use Rattle.command_lines.proofs.meta_line.Output+W.other_types.Given as goal

abbrev pub invariant-loop-kind : goal.invariant-loop-kind
invariant-loop-kind g l =
    SentSoFar g.W.Write.contents l.initial.self l.self (text_of_others l.left) (text_of_others l.types)

abbrev pub decreases-loop-kind : goal.decreases-loop-kind
decreases-loop-kind g l = length l.left
