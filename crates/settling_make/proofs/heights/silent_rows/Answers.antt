use Rattle.std.proofs.Common.{arith}
use Rattle.settling_make.proofs.Silent.{rows_none, rows_more, rows_all}
use Rattle.settling_make.proofs.heights.silent_rows.Goals as goal

pub loop-number-init : goal.loop-number-init
loop-number-init c = rows_none _ _ _ _ c.new-rows.ensures

pub loop-number-preserved : goal.loop-number-preserved
loop-number-preserved c = rows_more _ _ _ _ _ _ _ c.in_ok-push.ensures.ok c.in_ok-row.ensures c.loop-number.invariant

pub returns : goal.returns
returns c = rows_all _ _ _ _ _ _ c.rows-number-end.ensures (omega arith) c.loop-number.invariant
