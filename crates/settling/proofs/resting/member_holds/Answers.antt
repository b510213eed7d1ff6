use Rattle.settling.proofs.RoundsOfNodes.{member_told}
use Rattle.settling.proofs.resting.member_holds.Goals as goal

pub returns-then-is_within : goal.returns-then-is_within
returns-then-is_within c =
    member_told c.args.meta.now c.args.standings.now c.args.targets.now c.args.standing c.args.set c.args.span (c.is_within.ensures.0 c.if-is_within.true) c.cost_of.result c.cost_of.ensures c.steps_fall.result c.steps_fall.ensures
