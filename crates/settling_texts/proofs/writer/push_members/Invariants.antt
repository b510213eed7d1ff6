use Rattle.std.proofs.Common.{◌≡◌, ◌++◌, length}
use Rattle.std.specs.List.{flat_map}
use Rattle.settling_texts.specs.Texts.{listed_node}
use Rattle.settling_texts.proofs.writer.push_members.Given as goal

-- with what is left, the text is whole
abbrev pub invariant-loop-node : goal.invariant-loop-node
invariant-loop-node l = l.text.items ++ flat_map listed_node l.left ≡ l.fn.text.items ++ flat_map listed_node l.members

abbrev pub decreases-loop-node : goal.decreases-loop-node
decreases-loop-node l = length l.left
