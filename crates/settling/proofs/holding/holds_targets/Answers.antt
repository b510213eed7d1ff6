use Rattle.std.proofs.Common.{◌<◌, Bool, List, length, get_or, arith}
use Rattle.std.proofs.lemmas.List.Elements.{Contains-get_or}
use Rattle.class_sets.specs.Marks.{IsWithin}
use Rattle.rank_check.proofs.Elements.{at_index}
use Rattle.settling.proofs.Passing.{read_more, read_all}
use Rattle.settling.proofs.holding.holds_targets.Goals as goal

pub offset_bounds-sets-target : goal.offset_bounds-sets-target
offset_bounds-sets-target c =
    let inside : get_or c.args.targets.now c.loop-target.target-index 0 < length c.args.sets.now = c.requires _ (Contains-get_or c.args.targets.now c.loop-target.target-index 0 c.loop-target-test.true) in
    omega arith

pub bounds-sets-target : goal.bounds-sets-target
bounds-sets-target c = c.requires _ (Contains-get_or c.args.targets.now c.loop-target.target-index 0 c.loop-target-test.true)

pub returns-in-Some : goal.returns-in-Some
returns-in-Some c = λ all.
    let held = Contains-get_or c.args.targets.now c.loop-target.target-index 0 c.loop-target-test.true in
    let at = at_index c.args.sets.now _ _ (c.requires _ held) c.index-sets-target.is in
    c.in-Some.ensures.1 (all _ _ held at _ c.in-Some.ensures.0)

pub loop-target-preserved : goal.loop-target-preserved
loop-target-preserved c =
    let held = Contains-get_or c.args.targets.now c.loop-target.target-index 0 c.loop-target-test.true in
    read_more (λ (other : List Bool). IsWithin other c.args.set.now) c.args.sets.now c.args.targets.now c.loop-target.target-index _ (at_index c.args.sets.now _ _ (c.requires _ held) c.index-sets-target.is) c.in_default.ensures c.loop-target.invariant

pub returns : goal.returns
returns c = λ b other held at.
    read_all (λ (o : List Bool). IsWithin o c.args.set.now) c.args.sets.now c.args.targets.now c.loop-target.target-index c.loop-target-test.false c.loop-target.invariant b other held at
