use Rattle.std.proofs.Common.{[], refl, length, arith, sym, ◌∙◌, ap, subst}
use Rattle.std.proofs.lemmas.List.{length_push, length-reverse}
use Rattle.rank_graph.specs.Graphs.{IsToldCycle}
use Rattle.rank_graph.specs.Walks.{AreDistinct}
use Rattle.rank_graph.proofs.Searching.{climb_on, climb_step, climbed, once_step, one_reversed, top_alone}
use Rattle.rank_graph.proofs.cycle.back_to.Goals as goal

pub loop-current-init : goal.loop-current-init
loop-current-init c = (
  c.requires.target,
  λ rows climbs. (climbs, ([], one_reversed _ _ _ c.new-nodes.ensures.items c.in_ok-push.ensures.items, refl)),
  omega (arith, ap length c.in_ok-push.ensures.items ∙ length_push _ _),
  top_alone _ _ _ _ c.new-nodes.ensures.items c.in_ok-push.ensures.items c.requires.once,
)

pub loop-current-preserved : goal.loop-current-preserved
loop-current-preserved c = (
  climb_on _ _ _ _ _ c.loop-current.invariant.0 c.loop-current-test.true c.in-Some.ensures,
  λ rows climbs. climb_step rows _ _ _ _ _ _ _ c.in-Some.ensures c.in_ok-push-in-Some.ensures.items (c.loop-current.invariant.1 rows climbs),
  omega (arith, ap length c.in_ok-push-in-Some.ensures.items ∙ length_push _ _),
  once_step _ _ _ _ _ _ c.in-Some.ensures c.in_ok-push-in-Some.ensures.items c.loop-current.invariant.3,
)

pub from_least-requires : goal.from_least-requires
from_least-requires c = omega (arith, ap length c.as_slice.ensures.value ∙ ap length c.reverse.ensures.items ∙ length-reverse c.loop-current.nodes.items, c.loop-current.invariant.2)

pub returns : goal.returns
returns c = λ rows climbs edge.
    let cycle = climbed rows _ _ _ c.loop-current.nodes.items _ c.loop-current-test.false (c.as_slice.ensures.value ∙ c.reverse.ensures.items) edge (c.loop-current.invariant.1 rows climbs).1 in
    subst (IsToldCycle rows) (sym c.from_vec.ensures)
    (c.in_ok-told.ensures rows cycle (subst AreDistinct (sym (c.as_slice.ensures.value ∙ c.reverse.ensures.items)) c.loop-current.invariant.3.distinct))
