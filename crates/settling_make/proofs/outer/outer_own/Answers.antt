use Rattle.std.proofs.Common.{arith}
use Rattle.effect_scan.specs.Rows.{Edge}
use Rattle.rank_make.specs.Solved.{own_rows}
use Rattle.settling_make.proofs.Collecting.{sets_none, sets_more, sets_all}
use Rattle.settling_make.proofs.outer.outer_own.Goals as goal

pub loop-component-init : goal.loop-component-init
loop-component-init c = sets_none (λ k. Edge (own_rows c.args.scan.now)) c.args.found.now.sets _ c.new-rows.ensures

pub loop-component-preserved : goal.loop-component-preserved
loop-component-preserved c =
    sets_more (λ k. Edge (own_rows c.args.scan.now)) c.args.found.now.sets _ _ _ _ c.in_ok-push.ensures.ok
    (rw (c.row_at.ensures, c.as_slice.ensures) at c.in_ok-classes.ensures) c.loop-component.invariant

pub returns : goal.returns
returns c = sets_all (λ k. Edge (own_rows c.args.scan.now)) c.args.found.now.sets _ _ (omega arith) c.loop-component.invariant
