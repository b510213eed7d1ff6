use Rattle.std.proofs.Common.{ℕ, ◌<◌, arith, get_or, length, List, subst, sym, ap, ◌∙◌}
use Rattle.std.specs.List.{Contains}
use Rattle.std.proofs.lemmas.List.Elements.{Contains-get_or}
use Rattle.rank_graph.specs.Searching.{state_of}
use Rattle.rank_graph.proofs.Searching.{begins, target_inside, over_step, into_step, out_step, ends, into_smaller, out_smaller, held_climbs, held_once, passed, passes_left, less_more}
use Rattle.rank_graph.proofs.search.visit.Goals as goal

pub search-init : goal.search-init
search-init c = rw c.enter.ensures (begins _ _ _ _ _ _ c.new-path.ensures c.requires.states c.requires.root c.requires.fresh c.requires.finished c.requires.closed c.begun-at.ensures)

pub begun-at-requires-in-New-clause-node : goal.begun-at-requires-in-New-clause-node
begun-at-requires-in-New-clause-node c = target_inside _ _ _ _ c.targets_at-row.ensures c.requires.inside c.if-at-row.true

pub get-requires : goal.get-requires
get-requires c =
    let inside = target_inside _ _ _ _ c.targets_at-row.ensures c.requires.inside c.if-at-row.true in
    omega (arith, inside, c.search.invariant.1.len, c.requires.states)

pub enter-requires-in-New : goal.enter-requires-in-New
enter-requires-in-New c =
    let inside = target_inside _ _ _ _ c.targets_at-row.ensures c.requires.inside c.if-at-row.true in
    omega (arith, inside, c.search.invariant.1.len, c.requires.states)

pub over-at-requires : goal.over-at-requires
unfolding state_of
over-at-requires c = let low = (passed _ _ _ _ _ _ _ _ c.past_done-at.ensures c.search.invariant).0.finished.ranked _ _ (sym c.get.ensures ∙ c.in-Done.is) in omega (arith, low, c.requires.states)

pub search-preserved-in-Done : goal.search-preserved-in-Done
unfolding state_of
search-preserved-in-Done c = over_step _ _ _ _ _ _ _ _ _ _ (passed _ _ _ _ _ _ _ _ c.past_done-at.ensures c.search.invariant) c.targets_at-row.ensures c.if-at-row.true (sym c.get.ensures ∙ c.in-Done.is) c.over-at.ensures.rank c.over-at.ensures.classes

pub search-smaller-in-New : goal.search-smaller-in-New
unfolding state_of
search-smaller-in-New c =
    let fewer = passes_left _ _ _ _ c.past_done-at.ensures in
    rw c.enter-in-New.ensures (less_more _ _ _ _ _ fewer (into_smaller _ _ _ _ _ _ _ _ c.begun-at-in-New.result _ (passed _ _ _ _ _ _ _ _ c.past_done-at.ensures c.search.invariant) c.requires.states c.requires.inside c.targets_at-row.ensures c.if-at-row.true (sym c.get.ensures ∙ c.in-New.is) c.begun-at-in-New.ensures.node c.in_ok-push-in-New.ensures))

pub search-preserved-in-New : goal.search-preserved-in-New
unfolding state_of
search-preserved-in-New c = rw c.enter-in-New.ensures (into_step _ _ _ _ _ _ _ _ _ _ (passed _ _ _ _ _ _ _ _ c.past_done-at.ensures c.search.invariant) c.requires.states c.requires.inside c.targets_at-row.ensures c.if-at-row.true (sym c.get.ensures ∙ c.in-New.is) c.begun-at-in-New.ensures c.in_ok-push-in-New.ensures)

pub returns-in-Open : goal.returns-in-Open
returns-in-Open c =
    let edge = subst (λ (x : List ℕ). Contains x (get_or c.targets_at-row.result.now c.past_done-at.result.next 0)) c.targets_at-row.ensures (Contains-get_or c.targets_at-row.result.now c.past_done-at.result.next 0 c.if-at-row.true) in
    record { ok = tt; err = c.in_ok-cycle-in-Open.ensures c.args.rows.now (held_climbs _ _ _ _ _ (passed _ _ _ _ _ _ _ _ c.past_done-at.ensures c.search.invariant).0.held) edge }

pub search-smaller : goal.search-smaller
search-smaller c =
    let fewer = passes_left _ _ _ _ c.past_done-at.ensures in
    rw c.in_ok-leave.ensures (less_more _ _ _ _ _ fewer (out_smaller _ _ _ _ _ _ _ _ _ (passed _ _ _ _ _ _ _ _ c.past_done-at.ensures c.search.invariant) c.in-Some.ensures))

pub search-preserved : goal.search-preserved
search-preserved c = rw c.in_ok-leave.ensures (out_step _ _ _ _ _ _ _ _ _ _ (passed _ _ _ _ _ _ _ _ c.past_done-at.ensures c.search.invariant) c.requires.states c.targets_at-row.ensures (omega (arith, c.if-at-row.false)) c.in-Some.ensures)

pub returns-in-None : goal.returns-in-None
returns-in-None c = record { ok = rw c.in_ok-leave.ensures (ends _ _ _ _ _ _ _ _ (passed _ _ _ _ _ _ _ _ c.past_done-at.ensures c.search.invariant) c.requires.states c.targets_at-row.ensures (omega (arith, c.if-at-row.false)) c.in-None.ensures.0); err = tt }

pub back_to-requires-clause-target : goal.back_to-requires-clause-target
unfolding state_of
back_to-requires-clause-target c = (passed _ _ _ _ _ _ _ _ c.past_done-at.ensures c.search.invariant).0.only _ (sym c.get.ensures ∙ c.in-Open.is)

pub back_to-requires-clause-once : goal.back_to-requires-clause-once
back_to-requires-clause-once c = held_once _ _ _ _ _ (passed _ _ _ _ _ _ _ _ c.past_done-at.ensures c.search.invariant).0.held (passed _ _ _ _ _ _ _ _ c.past_done-at.ensures c.search.invariant).0.once

pub past_done-at-requires-clause-states : goal.past_done-at-requires-clause-states
past_done-at-requires-clause-states c = omega (arith, c.search.invariant.1.len, c.requires.states)

pub past_done-at-requires-clause-low : goal.past_done-at-requires-clause-low
past_done-at-requires-clause-low c = λ a e is. let low = c.search.invariant.0.finished.ranked a e is in omega (arith, low, c.requires.states)

pub search-smaller-in-Done : goal.search-smaller-in-Done
search-smaller-in-Done c =
    let fewer = passes_left _ _ _ _ c.past_done-at.ensures in
    let count = ap (λ (l : List ℕ). length l) c.targets_at-row.ensures in
    omega (arith, fewer, c.if-at-row.true, count)
