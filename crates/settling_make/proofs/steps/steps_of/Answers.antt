use Rattle.std.proofs.Common.{◌≡◌, List, ℕ, length, ap, subst, arith}
use Rattle.std.specs.List.{Contains}
use Rattle.effect_scan.specs.Rows.{row, Edge}
use Rattle.settling_make.specs.Ranking.{IsHighest}
use Rattle.settling_make.proofs.Stepping.{steps_none, steps_more, steps_high, steps_all}
use Rattle.settling_make.proofs.steps.steps_of.Goals as goal

pub loop-component-init : goal.loop-component-init
loop-component-init c = steps_none c.args.outer.now c.args.margins.now c.requires.falls _ c.new-steps.ensures

pub highest_of-highest-requires : goal.highest_of-highest-requires
highest_of-highest-requires c = λ b held.
    let edge : Edge c.args.outer.now c.loop-component.component b = subst (λ (l : List ℕ). Contains l b) c.targets_at.ensures held in
    let low = c.requires.falls c.loop-component.component b edge in
    let count : length c.as_slice.result.now ≡ length c.loop-component.steps = ap (λ (l : List ℕ). length l) c.as_slice.ensures in
    let made = c.loop-component.invariant.count in
    omega (arith, low, count, made)

pub returns-in-None : goal.returns-in-None
returns-in-None c =
    let is : IsHighest c.loop-component.steps (row c.args.outer.now c.loop-component.component) c.highest_of-highest.result = rw (c.as_slice.ensures, c.targets_at.ensures) at c.highest_of-highest.ensures in
    steps_high c.args.outer.now c.args.margins.now c.requires.falls c.loop-component.component c.loop-component-test.true c.loop-component.steps c.loop-component.invariant c.highest_of-highest.result is _ c.in-None.ensures

pub loop-component-preserved : goal.loop-component-preserved
loop-component-preserved c =
    let is : IsHighest c.loop-component.steps (row c.args.outer.now c.loop-component.component) c.highest_of-highest.result = rw (c.as_slice.ensures, c.targets_at.ensures) at c.highest_of-highest.ensures in
    steps_more c.args.outer.now c.args.margins.now c.requires.falls c.loop-component.component c.loop-component-test.true c.loop-component.steps c.loop-component.invariant c.highest_of-highest.result is
    c.in-Some.step _ c.in-Some.ensures.0 c.in-Some.ensures.1 _ c.in_ok-push-in-Some.ensures.ok

pub returns : goal.returns
returns c = steps_all c.args.outer.now c.args.margins.now c.requires.falls c.loop-component.component c.loop-component.steps c.requires.count c.loop-component-test.false (omega arith) c.loop-component.invariant
