use Rattle.std.proofs.Common.{refl, arith}
use Rattle.effect_scan.specs.Rows.{Edge}
use Rattle.rank_make.specs.Solved.{own_rows}
use Rattle.settling_make.proofs.Collecting.{collected_none, collected_more, collected_all}
use Rattle.settling_make.proofs.outer.own_classes.Goals as goal

pub loop-member-init : goal.loop-member-init
loop-member-init c = collected_none (Edge (own_rows c.args.scan.now)) c.args.members.now _ c.new-classes.ensures

pub loop-member-preserved : goal.loop-member-preserved
loop-member-preserved c = collected_more (Edge (own_rows c.args.scan.now)) c.args.members.now c.loop-member.member-index _ _ _ c.loop-member-test.true refl c.in_ok-add_own.ensures c.loop-member.invariant

pub returns : goal.returns
returns c = collected_all (Edge (own_rows c.args.scan.now)) c.args.members.now c.args.members.now c.loop-member.member-index _ refl (omega arith) c.loop-member.invariant
