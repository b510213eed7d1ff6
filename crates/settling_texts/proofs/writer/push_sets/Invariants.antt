use Rattle.std.proofs.Common.{◌≡◌, ◌++◌, length}
use Rattle.std.specs.List.{flat_map}
use Rattle.settling_texts.specs.Texts.{set_line}
use Rattle.settling_texts.proofs.writer.push_sets.Given as goal

-- with what is left, the text is whole
abbrev pub invariant-loop-set : goal.invariant-loop-set
invariant-loop-set l = l.text.items ++ flat_map set_line l.left ≡ l.fn.text.items ++ flat_map set_line l.sets

abbrev pub decreases-loop-set : goal.decreases-loop-set
decreases-loop-set l = length l.left
