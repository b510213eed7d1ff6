use Rattle.std.proofs.Common.{◌≡◌, ◌<◌, length, arith}
use Rattle.effect_scan.proofs.Relating.{row_width, extends_at, square_after, own_more}
use Rattle.effect_scan.proofs.closure.relate_own.Goals as goal

pub add-requires : goal.add-requires
add-requires c =
    let inside : c.loop-class.class < length c.loop-class.relation = omega (arith, c.loop-class-test.true, c.loop-class.auto.relation) in
    let low : c.loop-class.class < length c.args.relation.now = omega (arith, inside, c.loop-class.auto.relation) in
    let width = row_width _ c.loop-class.relation c.loop-class.class c.index-relation-class.result c.loop-class.invariant.square low in
    omega arith

pub loop-class-preserved : goal.loop-class-preserved
loop-class-preserved c =
    let inside : c.loop-class.class < length c.loop-class.relation = omega (arith, c.loop-class-test.true, c.loop-class.auto.relation) in
    own_more _ _ _ _ c.loop-class.invariant
    (extends_at (λ j. j ≡ c.loop-class.class) _ _ c.index-relation-class.result _ (square_after _ _ _ c.loop-class.invariant) inside
    c.add.ensures)
