use Rattle.std.proofs.Common.{◌<◌, length, get_or, sym, subst, arith}
use Rattle.std.proofs.lemmas.List.Elements.{Contains-get_or}
use Rattle.std.proofs.lemmas.Option.{slice_get_within, get_or_from_slice_get}
use Rattle.effect_scan.specs.Edges.{MayLead}
use Rattle.settling.specs.declared.standings.Standing.{Standing}
use Rattle.settling.specs.code.ByNumbers.{FallsAlong}
use Rattle.settling.proofs.Passing.{read_more, read_all, read_there}
use Rattle.settling.proofs.falling.falls_from.Goals as goal

pub bounds-standings-target : goal.bounds-standings-target
bounds-standings-target c =
    let found = c.requires _ (Contains-get_or c.args.targets.now c.loop-target.target-index 0 c.loop-target-test.true) in
    slice_get_within c.args.standings.now _ found.0 found.1

pub offset_bounds-standings-target : goal.offset_bounds-standings-target
offset_bounds-standings-target c =
    let found = c.requires _ (Contains-get_or c.args.targets.now c.loop-target.target-index 0 c.loop-target-test.true) in
    let inside : get_or c.args.targets.now c.loop-target.target-index 0 < length c.args.standings.now = slice_get_within c.args.standings.now _ found.0 found.1 in
    omega arith

pub falls_along-requires : goal.falls_along-requires
falls_along-requires c =
    let found = c.requires _ (Contains-get_or c.args.targets.now c.loop-target.target-index 0 c.loop-target-test.true) in
    subst (λ (s : Standing). MayLead c.args.meta.now c.args.from.node s.node) (sym (get_or_from_slice_get c.args.standings.now _ found.0 _ found.1)) found.2

pub returns-then-not-falls_along : goal.returns-then-not-falls_along
returns-then-not-falls_along c = λ all.
    let held = Contains-get_or c.args.targets.now c.loop-target.target-index 0 c.loop-target-test.true in
    let found = c.requires _ held in
    let yes = c.falls_along.ensures.1 (all _ _ held (read_there c.args.standings.now _ found.0 _ found.1)) in
    let no_ = c.if-not-falls_along.true in
    cc

pub loop-target-preserved : goal.loop-target-preserved
loop-target-preserved c =
    let held = Contains-get_or c.args.targets.now c.loop-target.target-index 0 c.loop-target-test.true in
    let found = c.requires _ held in
    read_more (λ (to : Standing). FallsAlong c.args.meta.now c.args.from to) c.args.standings.now c.args.targets.now c.loop-target.target-index _ (read_there c.args.standings.now _ found.0 _ found.1)
    (c.falls_along.ensures.0 c.if-not-falls_along.false) c.loop-target.invariant

pub returns : goal.returns
returns c = λ b to held at.
    read_all (λ (z : Standing). FallsAlong c.args.meta.now c.args.from z) c.args.standings.now c.args.targets.now c.loop-target.target-index c.loop-target-test.false c.loop-target.invariant b to held at
