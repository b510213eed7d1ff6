use Rattle.std.proofs.Common.{◌<◌, ◌≡◌, List, length, ap, arith}
use Rattle.settling_make.specs.declared.groups.SearchState.{SearchState}
use Rattle.settling_make.proofs.States.{state_read}
use Rattle.settling_make.proofs.Searching.{begins, since_begins, step_inside, done_step, open_step, new_step, new_smaller, none_below, merge_step, leave_inside, out_step, out_less, end_step}
use Rattle.settling_make.proofs.search.ComponentSearch.visit.Goals as goal

pub search-init : goal.search-init
search-init c =
    let inside : c.args.root < length c.args.self.now.states = omega (arith, c.requires.root, c.requires.between.left.count) in (
      begins c.args.rows.now c.args.root c.args.self.now c.enter.new.self c.in_ok-at.at c.in_ok-at.ensures inside c.requires.fresh c.new-path.result c.new-path.ensures c.requires.between,
      since_begins c.args.rows.now c.args.root c.args.self.now c.enter.new.self c.in_ok-at.at c.in_ok-at.ensures inside c.requires.fresh,
    )

pub offset_bounds-as_slice-target : goal.offset_bounds-as_slice-target
offset_bounds-as_slice-target c =
    let inside = step_inside c.args.rows.now c.args.self.now c.search.self c.args.root c.search.path c.search.at c.search.invariant c.pop.new.self c.in-Some.target c.in-Some.ensures c.requires.inside in
    let count : length c.as_slice.result.now ≡ length c.search.self.states = ap (λ (l : List SearchState). length l) c.as_slice.ensures in
    omega arith

pub bounds : goal.bounds
bounds c =
    let inside = step_inside c.args.rows.now c.args.self.now c.search.self c.args.root c.search.path c.search.at c.search.invariant c.pop.new.self c.in-Some.target c.in-Some.ensures c.requires.inside in
    let count : length c.as_slice.result.now ≡ length c.search.self.states = ap (λ (l : List SearchState). length l) c.as_slice.ensures in
    omega arith

pub search-preserved-in-Done : goal.search-preserved-in-Done
search-preserved-in-Done c =
    done_step c.args.rows.now c.args.self.now c.search.self c.args.root c.search.path c.search.at c.search.invariant c.pop.new.self c.in-Some.target c.in-Some.ensures c.in-Done.field-0
    (state_read c.as_slice.result.now c.search.self.states c.in-Some.target _ c.as_slice.ensures c.in-Done.is)

pub enter-requires-in-New-clause-node : goal.enter-requires-in-New-clause-node
enter-requires-in-New-clause-node c = step_inside c.args.rows.now c.args.self.now c.search.self c.args.root c.search.path c.search.at c.search.invariant c.pop.new.self c.in-Some.target c.in-Some.ensures c.requires.inside

pub search-smaller-in-New : goal.search-smaller-in-New
search-smaller-in-New c =
    new_smaller c.args.rows.now c.args.self.now c.search.self c.args.root c.search.path c.search.at c.search.invariant c.pop.new.self c.in-Some.target c.in-Some.ensures c.push.new.self c.in_ok-push-in-New.ensures.ok
    c.enter-in-New.new.self c.in_ok-at-in-New.at c.push-in-New.new.self c.in_ok-push-in-New-2.ensures
    (state_read c.as_slice.result.now c.search.self.states c.in-Some.target _ c.as_slice.ensures c.in-New.is) c.requires.inside c.in_ok-at-in-New.ensures

pub search-preserved-in-New : goal.search-preserved-in-New
search-preserved-in-New c =
    new_step c.args.rows.now c.args.self.now c.search.self c.args.root c.search.path c.search.at c.search.invariant c.pop.new.self c.in-Some.target c.in-Some.ensures c.push.new.self c.in_ok-push-in-New.ensures.ok
    c.enter-in-New.new.self c.in_ok-at-in-New.at c.push-in-New.new.self c.in_ok-push-in-New-2.ensures
    (state_read c.as_slice.result.now c.search.self.states c.in-Some.target _ c.as_slice.ensures c.in-New.is) c.requires.inside c.in_ok-at-in-New.ensures

pub search-preserved-in-Some-pop : goal.search-preserved-in-Some-pop
search-preserved-in-Some-pop c =
    merge_step c.args.rows.now c.args.self.now c.search.self c.args.root c.search.path c.search.at c.search.invariant c.pop.new.self c.in-Some.target c.in-Some.ensures c.push-then-time-at.new.self c.in_ok-push-in-Open.ensures.ok
    c.in-Open.time c.in-Some-pop.below c.in_ok-at-in-Some-pop.at c.pop-then-time-at.new.self
    (state_read c.as_slice.result.now c.search.self.states c.in-Some.target _ c.as_slice.ensures c.in-Open.is) c.if-time-at.true c.in-Some-pop.ensures c.in_ok-at-in-Some-pop.ensures

pub unreachable-requires : goal.unreachable-requires
unreachable-requires c =
    none_below c.args.rows.now c.args.self.now c.search.self c.args.root c.search.path c.search.at c.search.invariant c.pop.new.self c.in-Some.target c.in-Some.ensures c.push-then-time-at.new.self c.in_ok-push-in-Open.ensures.ok
    c.in-Open.time (state_read c.as_slice.result.now c.search.self.states c.in-Some.target _ c.as_slice.ensures c.in-Open.is) c.if-time-at.true c.in-None-pop.ensures.0

pub search-preserved-else-time-at : goal.search-preserved-else-time-at
search-preserved-else-time-at c =
    open_step c.args.rows.now c.args.self.now c.search.self c.args.root c.search.path c.search.at c.search.invariant c.pop.new.self c.in-Some.target c.in-Some.ensures c.in-Open.time
    (state_read c.as_slice.result.now c.search.self.states c.in-Some.target _ c.as_slice.ensures c.in-Open.is) c.if-time-at.false

pub leave-requires : goal.leave-requires
leave-requires c =
    leave_inside c.args.rows.now c.args.self.now c.search.self c.args.root c.search.path c.search.at c.search.invariant c.into_members.result c.into_members.ensures c.in-None.ensures.0

pub search-smaller : goal.search-smaller
search-smaller c =
    out_less c.args.rows.now c.args.self.now c.search.self c.args.root c.search.path c.search.at c.search.invariant c.into_members.result c.into_members.ensures c.in-None.ensures.0 c.leave.new.self c.in_ok-leave-in-None.ensures
    c.in-Some-pop-2.below c.pop-in-None.new.self c.in-Some-pop-2.ensures

pub search-preserved : goal.search-preserved
search-preserved c =
    out_step c.args.rows.now c.args.self.now c.search.self c.args.root c.search.path c.search.at c.search.invariant c.into_members.result c.into_members.ensures c.in-None.ensures.0 c.leave.new.self c.in_ok-leave-in-None.ensures
    c.in-Some-pop-2.below c.pop-in-None.new.self c.in-Some-pop-2.ensures

pub returns-in-None-pop-2 : goal.returns-in-None-pop-2
returns-in-None-pop-2 c =
    end_step c.args.rows.now c.args.self.now c.search.self c.args.root c.search.path c.search.at c.search.invariant c.into_members.result c.into_members.ensures c.in-None.ensures.0 c.leave.new.self c.in_ok-leave-in-None.ensures c.in-None-pop-2.ensures.0
