use Rattle.class_outlines.proofs.Choices.{fails}
use Rattle.meta_objects.proofs.Repeats.{none_repeats, repeats_further, repeats_here, repeats_never}
use Rattle.meta_objects.proofs.clashes.first_repeated.Goals as goal

pub loop-place-init : goal.loop-place-init
loop-place-init g c = none_repeats g.T.Alike.alike c.args.items.now

pub loop-place-preserved : goal.loop-place-preserved
loop-place-preserved g c =
    repeats_further g.T.Alike.alike c.args.items.now c.loop-place.place c.index-items-place.result c.loop-place-test.true c.index-items-place.is
    (rw c.split_at.ensures.front at (fails _ c.has_alike.ensures c.if-has_alike.false)) c.loop-place.invariant

pub returns-then-has_alike : goal.returns-then-has_alike
returns-then-has_alike g c = (
  repeats_here g.T.Alike.alike c.args.items.now c.loop-place.place c.index-items-place.result c.loop-place-test.true c.index-items-place.is
      (rw c.split_at.ensures.front at (c.has_alike.ensures.0 c.if-has_alike.true)),
  c.loop-place-test.true,
)

pub returns : goal.returns
returns g c = repeats_never g.T.Alike.alike c.args.items.now c.loop-place.place c.loop-place-test.false c.loop-place.invariant
