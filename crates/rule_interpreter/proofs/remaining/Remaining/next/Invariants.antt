use Rattle.std.proofs.Common.{◌≡◌, ◌++◌, length}
use Rattle.rule_interpreter.specs.code.Remaining.{of_blocks}
use Rattle.rule_interpreter.proofs.remaining.Remaining.next.Given as goal

-- what is left is what was left
abbrev pub invariant-loop-self : goal.invariant-loop-self
invariant-loop-self l = l.self-inside.block.now ++ of_blocks l.self-inside.outer.items ≡ l.fn.self

abbrev pub decreases-loop-self : goal.decreases-loop-self
decreases-loop-self l = length l.self-inside.outer.items
