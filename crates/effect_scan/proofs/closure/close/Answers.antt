use Rattle.std.proofs.Common.{◌<◌, Bool, List, length, ap, arith}
use Rattle.effect_scan.proofs.Relating.{row_width, is_after, closing_none, closing_more, closed_all}
use Rattle.effect_scan.proofs.closure.close.Goals as goal

pub loop-class-init : goal.loop-class-init
loop-class-init c = closing_none _ c.requires.square

pub pass-requires-clause-others : goal.pass-requires-clause-others
pass-requires-clause-others c =
    let low : c.loop-class.class < length c.args.relation.now = omega arith in
    let width = row_width _ c.loop-class.relation c.loop-class.class c.index-relation-class.result c.loop-class.invariant.square low in
    let same = ap (λ (l : List Bool). length l) c.in_ok-after.ensures in
    omega (arith, c.loop-class.auto.relation)

pub loop-class-preserved : goal.loop-class-preserved
loop-class-preserved c =
    let inside : c.loop-class.class < length c.loop-class.relation = omega (arith, c.loop-class.auto.relation) in
    closing_more _ _ _ _ _ c.loop-class.invariant (is_after _ _ c.index-relation-class.result _ inside c.in_ok-after.ensures) c.pass.ensures

pub returns : goal.returns
returns c = closed_all _ _ _ (omega arith) c.loop-class.invariant
