use Rattle.std.proofs.Common.{arith}
use Rattle.settling_make.specs.Collected.{LeadsOut}
use Rattle.settling_make.proofs.Collecting.{sets_none, sets_more, sets_all}
use Rattle.settling_make.proofs.outer.outer_rows.Goals as goal

pub loop-component-init : goal.loop-component-init
loop-component-init c = sets_none (LeadsOut c.args.scan.now.rows c.args.found.now.numbers) c.args.found.now.sets _ c.new-rows.ensures

pub loop-component-preserved : goal.loop-component-preserved
loop-component-preserved c = sets_more (LeadsOut c.args.scan.now.rows c.args.found.now.numbers) c.args.found.now.sets _ _ _ _ c.in_ok-push.ensures.ok c.in_ok-row.ensures c.loop-component.invariant

pub returns : goal.returns
returns c = sets_all (LeadsOut c.args.scan.now.rows c.args.found.now.numbers) c.args.found.now.sets _ _ (omega arith) c.loop-component.invariant
