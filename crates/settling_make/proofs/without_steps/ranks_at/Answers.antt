use Rattle.rank_graph.specs.Solutions.{rank_of}
use Rattle.settling_make.proofs.Acyclic.{ranks_none, ranks_more}
use Rattle.settling_make.proofs.without_steps.ranks_at.Goals as goal

pub loop-node-init : goal.loop-node-init
loop-node-init c = ranks_none (rank_of c.args.solution.now) _ c.new-ranks.ensures

pub loop-node-preserved : goal.loop-node-preserved
loop-node-preserved c = ranks_more (rank_of c.args.solution.now) c.loop-node.node c.loop-node.ranks _ _ c.in_ok-push.ensures.ok c.rank.ensures c.loop-node.invariant
