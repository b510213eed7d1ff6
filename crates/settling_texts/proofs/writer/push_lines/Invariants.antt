use Rattle.std.proofs.Common.{◌≡◌, ◌++◌, length}
use Rattle.std.specs.List.{flat_map}
use Rattle.settling_texts.specs.Texts.{node_line}
use Rattle.settling_texts.proofs.writer.push_lines.Given as goal

-- with what is left, the text is whole
abbrev pub invariant-loop-line : goal.invariant-loop-line
invariant-loop-line l = l.text.items ++ flat_map node_line l.left ≡ l.fn.text.items ++ flat_map node_line l.lines

abbrev pub decreases-loop-line : goal.decreases-loop-line
decreases-loop-line l = length l.left
