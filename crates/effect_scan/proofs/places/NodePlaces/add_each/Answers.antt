use Rattle.effect_scan.proofs.Gathering.{each_none, each_more, each_all}
use Rattle.effect_scan.proofs.places.NodePlaces.add_each.Goals as goal

pub loop-class-init : goal.loop-class-init
loop-class-init c = each_none c.args.self.now.numbering c.args.classes.now c.args.member _

pub loop-class-preserved : goal.loop-class-preserved
loop-class-preserved c = each_more c.args.self.now.numbering c.args.classes.now c.args.member _ _ _ _ c.loop-class-test.true c.loop-class.invariant c.in_ok-add_one.ensures

pub returns : goal.returns
returns c = each_all c.args.self.now.numbering c.args.classes.now c.args.member _ _ _ c.loop-class-test.false c.loop-class.invariant
