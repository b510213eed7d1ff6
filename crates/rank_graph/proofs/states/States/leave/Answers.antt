use Rattle.rank_graph.proofs.Sharing.{left_set}
use Rattle.rank_graph.proofs.states.States.leave.Goals as goal

pub returns : goal.returns
returns c = left_set _ _ _ _ _ _ _ _ c.self.view_is c.self.invariant c.in_ok-number.ensures.ok c.set.ensures
