use Rattle.std.proofs.Common.{◌∙◌}
use Rattle.class_sets.proofs.Words.{none_marked, zeros}
use Rattle.class_sets.proofs.class_set.ClassSet.with_room.Goals as goal

pub returns : goal.returns
returns c = none_marked _ _ _ (c.from_vec-words.ensures ∙ zeros _ _ _ _ c.new-words.ensures.items c.new-words.ensures.len c.in_ok-resize.ensures.items)
