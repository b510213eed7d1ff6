use Rattle.settling_make.proofs.Silent.{themselves_none, themselves_more}
use Rattle.settling_make.proofs.heights.each_itself.Goals as goal

pub loop-number-init : goal.loop-number-init
loop-number-init c = themselves_none _ c.new-numbers.ensures

pub loop-number-preserved : goal.loop-number-preserved
loop-number-preserved c = themselves_more _ _ _ c.in_ok-push.ensures.ok c.loop-number.invariant
