use Rattle.class_sets.specs.Words.{JoinsTo}
use Rattle.class_sets.proofs.class_set.join_words.Given as goal

abbrev pub invariant-loop-place : goal.invariant-loop-place
invariant-loop-place l = JoinsTo l.place l.more l.initial.words l.words
