use Rattle.std.proofs.Common.{◌<◌, length, arith}
use Rattle.class_sets.proofs.Words.{join_none, join_more}
use Rattle.class_sets.proofs.class_set.join_words.Goals as goal

pub loop-place-init : goal.loop-place-init
loop-place-init c = join_none _ _

pub loop-place-preserved : goal.loop-place-preserved
loop-place-preserved c =
    let inside : c.loop-place.place < length c.args.words.now = omega arith in
    join_more _ _ _ _ _ _ _ inside c.loop-place.invariant c.word_at.ensures c.word_at-in-loop-place.ensures c.set.ensures
