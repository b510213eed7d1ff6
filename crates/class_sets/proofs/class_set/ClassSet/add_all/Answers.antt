use Rattle.std.proofs.Common.{◌<◌, length, get_or, arith}
use Rattle.std.proofs.lemmas.List.Elements.{Contains-get_or}
use Rattle.class_sets.proofs.Marking.{add_more, add_all}
use Rattle.class_sets.proofs.class_set.ClassSet.add_all.Goals as goal

pub add-requires : goal.add-requires
add-requires c =
    let low = c.requires _ (Contains-get_or c.args.classes.now c.loop-class.class-index 0 c.loop-class-test.true) in
    let inside : get_or c.args.classes.now c.loop-class.class-index 0 < length c.loop-class.self = omega (arith, low, c.loop-class.invariant.count) in
    inside

pub loop-class-preserved : goal.loop-class-preserved
loop-class-preserved c = add_more _ _ _ _ _ c.loop-class-test.true c.loop-class.invariant c.add.ensures

pub returns : goal.returns
returns c = add_all _ _ _ _ c.loop-class-test.false c.loop-class.invariant
