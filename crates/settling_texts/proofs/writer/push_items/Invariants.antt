use Rattle.std.proofs.Common.{◌≡◌, ◌++◌, length}
use Rattle.std.specs.List.{flat_map}
use Rattle.certificate_lang.specs.Texts.{listed_text}
use Rattle.settling_texts.proofs.writer.push_items.Given as goal

-- with what is left, the text is whole
abbrev pub invariant-loop-item : goal.invariant-loop-item
invariant-loop-item l = l.text.items ++ flat_map listed_text l.left ≡ l.fn.text.items ++ flat_map listed_text l.items

abbrev pub decreases-loop-item : goal.decreases-loop-item
decreases-loop-item l = length l.left
