use Rattle.std.proofs.Common.{ℕ, List, subst, arith}
use Rattle.std.specs.List.{Contains}
use Rattle.effect_scan.proofs.Relating.{below_last}
use Rattle.effect_scan.proofs.Climbing.{lineage_none, lineage_more, lineage_all}
use Rattle.effect_scan.proofs.lineage.add_lineage.Goals as goal

pub loop-class-init : goal.loop-class-init
loop-class-init c = lineage_none c.args.meta.now _

pub classes_above-requires : goal.classes_above-requires
classes_above-requires c = omega (arith, c.requires)

pub join-requires : goal.join-requires
join-requires c = λ a held.
    let below = (c.in_ok-above.ensures a).0 (subst (λ (l : List ℕ). Contains l a) c.as_slice.ensures held) in
    let low = below_last c.args.meta.now _ a below in
    omega (arith, low, c.requires, c.loop-class.auto.rows)

pub loop-class-preserved : goal.loop-class-preserved
loop-class-preserved c = lineage_more c.args.meta.now c.loop-class.class _ _ _ _ c.in_ok-above.ensures c.loop-class.invariant (rw c.as_slice.ensures at c.in_ok-join.ensures)

pub returns : goal.returns
returns c = lineage_all c.args.meta.now c.loop-class.class _ _ (omega (arith, c.requires)) c.loop-class.invariant
