use Rattle.std.proofs.Common.{◌≡◌, ◌++◌, length}
use Rattle.basic_types.specs.Spelling.{text_of_types, text_of_others}
use Rattle.basic_types.proofs.qtype.push_types.Given as goal

-- with what is left of the types, the text is whole
abbrev pub invariant-loop-kind : goal.invariant-loop-kind
invariant-loop-kind l = l.text.items ++ text_of_others l.left ≡ l.fn.text.items ++ text_of_types l.types

abbrev pub decreases-loop-kind : goal.decreases-loop-kind
decreases-loop-kind l = length l.left
