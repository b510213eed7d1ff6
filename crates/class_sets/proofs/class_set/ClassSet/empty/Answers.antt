use Rattle.std.proofs.Common.{refl}
use Rattle.class_sets.specs.Words.{marks_of}
use Rattle.class_sets.proofs.class_set.ClassSet.empty.Goals as goal

pub returns : goal.returns
unfolding marks_of
returns c = refl
