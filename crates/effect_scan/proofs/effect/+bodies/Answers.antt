use Rattle.std.proofs.Common.{sym}
use Rattle.effect_scan.proofs.Occurring.{gather_more, gather_all, gather_if, gather_group, gather_pushed}
use Rattle.effect_scan.proofs.effect.+bodies.Goals as goal

pub gather-loop-statement-preserved : goal.gather-loop-statement-preserved
gather-loop-statement-preserved t c = gather_more c.args.types.now _ _ _ _ _ _ c.loop-statement-test.true c.statement-item.is c.loop-statement.invariant c.in_ok-gather_one.ensures

pub gather-returns : goal.gather-returns
gather-returns t c = gather_all c.args.types.now _ _ _ _ c.loop-statement-test.false c.loop-statement.invariant

pub gather_one-returns-in_ok-gather-in-If : goal.gather_one-returns-in_ok-gather-in-If
gather_one-returns-in_ok-gather-in-If t c = gather_if c.args.types.now c.gather-in-If.result _ _ _ _ _ _ _ _ _ c.in-If.is c.as_slice.ensures c.as_slice-in-If.ensures c.in_ok-gather-in-If.ensures c.gather-in-If.ensures

pub gather_one-returns-in-Some : goal.gather_one-returns-in-Some
gather_one-returns-in-Some t c = gather_pushed c.args.types.now c.push.result _ _ _ _ (c.in_default.not-If, c.in_default.not-Group) (sym c.in-Some.ensures) c.push.ensures.ok

pub gather_one-returns-in-Group : goal.gather_one-returns-in-Group
gather_one-returns-in-Group t c = gather_group c.args.types.now c.gather-in-Group.result _ _ _ _ _ c.in-Group.is c.as_slice-in-Group.ensures c.gather-in-Group.ensures
