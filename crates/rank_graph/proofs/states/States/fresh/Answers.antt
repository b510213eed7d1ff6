use Rattle.rank_graph.proofs.Sharing.{new_states}
use Rattle.rank_graph.proofs.states.States.fresh.Goals as goal

pub returns : goal.returns
returns c = new_states _ _ _ c.in_ok-marks.ensures
