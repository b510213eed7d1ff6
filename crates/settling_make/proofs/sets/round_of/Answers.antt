use Rattle.std.proofs.Common.{get_or, arith}
use Rattle.std.proofs.lemmas.List.Elements.{Contains-get_or}
use Rattle.rank_graph.specs.Solutions.{rank_of}
use Rattle.settling_make.proofs.Setting.{round_none, round_more, round_all}
use Rattle.settling_make.proofs.sets.round_of.Goals as goal

pub loop-member-init : goal.loop-member-init
loop-member-init c = round_none c.args.members.now (rank_of c.args.heights.now)

pub returns-then-height : goal.returns-then-height
returns-then-height c = (
  get_or c.args.members.now c.loop-member.member-index 0,
  Contains-get_or c.args.members.now c.loop-member.member-index 0 c.loop-member-test.true,
  (let e = c.rank-height.ensures in let high = c.if-height.true in omega (arith, e, high)),
)

pub loop-member-preserved : goal.loop-member-preserved
loop-member-preserved c =
    round_more c.args.members.now (rank_of c.args.heights.now) c.loop-member.member-index c.loop-member-test.true c.loop-member.round c.loop-member.invariant _ _ c.rank-height.ensures c.over-round.ensures.least c.over-round.ensures.over c.over-round.ensures.met

pub returns : goal.returns
returns c = round_all c.args.members.now (rank_of c.args.heights.now) c.loop-member.member-index c.loop-member.round c.loop-member-test.false c.requires c.loop-member.invariant
