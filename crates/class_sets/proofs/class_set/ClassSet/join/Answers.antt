use Rattle.class_sets.proofs.Words.{set_joined}
use Rattle.class_sets.proofs.class_set.ClassSet.join.Goals as goal

pub returns : goal.returns
returns c = set_joined _ _ _ _ _ _ _ c.self.view_is c.other.view_is c.self.invariant c.requires c.join_words.ensures
