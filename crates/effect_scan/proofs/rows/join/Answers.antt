use Rattle.std.proofs.Common.{◌<◌, length, get_or, arith}
use Rattle.std.specs.List.{Contains}
use Rattle.std.proofs.lemmas.List.Elements.{Contains-get_or}
use Rattle.effect_scan.proofs.Adding.{adds_to, join_more, join_all}
use Rattle.effect_scan.proofs.Gathering.{gathers_list}
use Rattle.effect_scan.proofs.rows.join.Goals as goal

pub offset_bounds-rows-source : goal.offset_bounds-rows-source
offset_bounds-rows-source c =
    let low = c.requires _ (Contains-get_or c.args.sources.now c.loop-source.source-index 0 c.loop-source-test.true) in
    let inside : get_or c.args.sources.now c.loop-source.source-index 0 < length c.loop-source.rows = omega (arith, low, c.loop-source.auto.rows) in
    omega arith

pub bounds-rows-source : goal.bounds-rows-source
bounds-rows-source c =
    let low = c.requires _ (Contains-get_or c.args.sources.now c.loop-source.source-index 0 c.loop-source-test.true) in
    let inside : get_or c.args.sources.now c.loop-source.source-index 0 < length c.loop-source.rows = omega (arith, low, c.loop-source.auto.rows) in
    inside

pub loop-source-preserved : goal.loop-source-preserved
loop-source-preserved c =
    let low = c.requires _ (Contains-get_or c.args.sources.now c.loop-source.source-index 0 c.loop-source-test.true) in
    let inside : get_or c.args.sources.now c.loop-source.source-index 0 < length c.loop-source.rows = omega (arith, low, c.loop-source.auto.rows) in
    join_more _ _ _ _ _ _ c.loop-source-test.true c.loop-source.invariant
    (adds_to (Contains c.args.targets.now) _ _ c.index-rows-source.result _ inside (gathers_list _ _ _ c.in_ok-add_all.ensures))

pub returns : goal.returns
returns c = join_all _ _ _ _ _ c.loop-source-test.false c.loop-source.invariant
