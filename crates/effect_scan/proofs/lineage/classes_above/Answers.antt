use Rattle.std.proofs.Common.{sym}
use Rattle.effect_scan.proofs.Climbing.{climb_none, climb_on, climb_end}
use Rattle.effect_scan.proofs.lineage.classes_above.Goals as goal

pub climb-init : goal.climb-init
climb-init c = climb_none c.args.meta.now c.args.class _ c.requires c.new-found.ensures

pub climb-preserved : goal.climb-preserved
climb-preserved c = climb_on c.args.meta.now c.args.class c.climb.above _ _ c.climb.invariant c.in_ok-add.ensures c.in-Some.base (sym c.in-Some.ensures.value) c.in-Some.ensures.smaller

pub returns-in-None : goal.returns-in-None
returns-in-None c = climb_end c.args.meta.now c.args.class c.climb.above _ _ c.climb.invariant c.in_ok-add.ensures (sym c.in-None.ensures.value)
