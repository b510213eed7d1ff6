use Rattle.std.proofs.Common.{◌<◌, ◌∙◌, ap, length, arith}
use Rattle.std.proofs.lemmas.List.{length_push, length-reverse}
use Rattle.program_commands.specs.Ways.{met_at}
use Rattle.program_commands.proofs.Searching.{walk_begun, walk_more}
use Rattle.program_commands.proofs.ways.way_back.Goals as goal

pub loop-place-init : goal.loop-place-init
unfolding met_at
loop-place-init c = (
  c.requires.at,
  λ rows closed tree edge. walk_begun _ _ _ _ _ _ c.new-nodes.ensures.items c.in_ok-push.ensures.items c.in_ok-push-2.ensures.items edge,
  omega (arith, ap length c.in_ok-push.ensures.items ∙ length_push _ _, ap length c.in_ok-push-2.ensures.items ∙ length_push _ _),
)

pub offset_bounds-found-place-in-loop-place : goal.offset_bounds-found-place-in-loop-place
unfolding met_at
offset_bounds-found-place-in-loop-place c =
    let before = c.requires.before c.loop-place.place c.loop-place-test.true c.loop-place.invariant.0 in
    omega (arith, before, c.loop-place.invariant.0)

pub bounds-found-place-in-loop-place : goal.bounds-found-place-in-loop-place
unfolding met_at
bounds-found-place-in-loop-place c =
    let before = c.requires.before c.loop-place.place c.loop-place-test.true c.loop-place.invariant.0 in
    omega (arith, before, c.loop-place.invariant.0)

pub loop-place-smaller : goal.loop-place-smaller
unfolding met_at
loop-place-smaller c = c.requires.before c.loop-place.place c.loop-place-test.true c.loop-place.invariant.0

pub loop-place-preserved : goal.loop-place-preserved
unfolding met_at
loop-place-preserved c =
    let before = c.requires.before c.loop-place.place c.loop-place-test.true c.loop-place.invariant.0 in (
      omega (arith, before, c.loop-place.invariant.0),
      λ rows closed tree edge. walk_more _ _ _ _ _ _ c.in_ok-push-3.ensures.items (c.loop-place.invariant.1 rows closed tree edge) (tree.edges c.loop-place.place c.loop-place-test.true c.loop-place.invariant.0),
      omega (arith, ap length c.in_ok-push-3.ensures.items ∙ length_push _ _, c.loop-place.invariant.2),
    )
