use Rattle.std.proofs.Common.{◌≢◌, ◌+◌, ◌<◌, ◌≤◌, Some, length, get_or, arith}
use Rattle.std.proofs.lemmas.List.Elements.{Contains-get_or}
use Rattle.std.proofs.lemmas.Option.{slice_get-get_or}
use Rattle.settling.specs.declared.standings.Standing.{Standing}
use Rattle.settling.proofs.Passing.{read_more, read_all}
use Rattle.settling.proofs.resting.steps_fall.Goals as goal

pub bounds-standings-target : goal.bounds-standings-target
bounds-standings-target c = c.requires.inside _ (Contains-get_or c.args.targets.now c.loop-target.target-index 0 c.loop-target-test.true)

pub offset_bounds-standings-target : goal.offset_bounds-standings-target
offset_bounds-standings-target c =
    let inside : get_or c.args.targets.now c.loop-target.target-index 0 < length c.args.standings.now = c.requires.inside _ (Contains-get_or c.args.targets.now c.loop-target.target-index 0 c.loop-target-test.true) in
    omega arith

pub returns-then-not-falls_to : goal.returns-then-not-falls_to
returns-then-not-falls_to c = λ all.
    let held = Contains-get_or c.args.targets.now c.loop-target.target-index 0 c.loop-target-test.true in
    let falls = c.falls_to.ensures.1 (all _ _ held (slice_get-get_or c.args.standings.now _ _ (c.requires.inside _ held))) in
    let fails = c.if-not-falls_to.true in
    cc

pub loop-target-preserved : goal.loop-target-preserved
loop-target-preserved c =
    let held = Contains-get_or c.args.targets.now c.loop-target.target-index 0 c.loop-target-test.true in
    read_more (λ (t : Standing). (t.set ≢ Some c.args.set) → t.step + c.args.cost ≤ c.args.step) c.args.standings.now c.args.targets.now c.loop-target.target-index _ (slice_get-get_or c.args.standings.now _ _ (c.requires.inside _ held))
    (c.falls_to.ensures.0 c.if-not-falls_to.false) c.loop-target.invariant

pub returns : goal.returns
returns c = λ b to held at.
    read_all (λ (t : Standing). (t.set ≢ Some c.args.set) → t.step + c.args.cost ≤ c.args.step) c.args.standings.now c.args.targets.now c.loop-target.target-index c.loop-target-test.false c.loop-target.invariant b to held at
