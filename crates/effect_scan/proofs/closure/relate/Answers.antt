use Rattle.std.proofs.Common.{◌<◌, length, get_or, arith}
use Rattle.std.specs.List.{Contains}
use Rattle.std.proofs.lemmas.List.Elements.{Contains-get_or}
use Rattle.effect_scan.proofs.Relating.{row_width, extends_at, square_after, relate_more, relate_all}
use Rattle.effect_scan.proofs.closure.relate.Goals as goal

pub offset_bounds-relation-first : goal.offset_bounds-relation-first
offset_bounds-relation-first c =
    let low = c.requires.firsts _ (Contains-get_or c.args.firsts.now c.loop-first.first-index 0 c.loop-first-test.true) in
    let inside : get_or c.args.firsts.now c.loop-first.first-index 0 < length c.loop-first.relation = omega (arith, low, c.loop-first.auto.relation) in
    omega arith

pub bounds-relation-first : goal.bounds-relation-first
bounds-relation-first c =
    let low = c.requires.firsts _ (Contains-get_or c.args.firsts.now c.loop-first.first-index 0 c.loop-first-test.true) in
    let inside : get_or c.args.firsts.now c.loop-first.first-index 0 < length c.loop-first.relation = omega (arith, low, c.loop-first.auto.relation) in
    inside

pub add_all-requires : goal.add_all-requires
add_all-requires c = λ j h.
    let low = c.requires.firsts _ (Contains-get_or c.args.firsts.now c.loop-first.first-index 0 c.loop-first-test.true) in
    let inside : get_or c.args.firsts.now c.loop-first.first-index 0 < length c.loop-first.relation = omega (arith, low, c.loop-first.auto.relation) in
    let width = row_width _ c.loop-first.relation _ c.index-relation-first.result c.loop-first.invariant.square low in
    let given = c.requires.others j h in
    omega arith

pub loop-first-preserved : goal.loop-first-preserved
loop-first-preserved c =
    let low = c.requires.firsts _ (Contains-get_or c.args.firsts.now c.loop-first.first-index 0 c.loop-first-test.true) in
    let inside : get_or c.args.firsts.now c.loop-first.first-index 0 < length c.loop-first.relation = omega (arith, low, c.loop-first.auto.relation) in
    relate_more _ _ _ _ _ _ c.loop-first-test.true c.loop-first.invariant
    (extends_at (Contains c.args.others.now) _ _ c.index-relation-first.result _ (square_after _ _ _ c.loop-first.invariant) inside c.add_all.ensures)

pub returns : goal.returns
returns c = relate_all _ _ _ _ _ c.loop-first-test.false c.loop-first.invariant
