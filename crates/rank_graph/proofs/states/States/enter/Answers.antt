use Rattle.rank_graph.proofs.Sharing.{inside_marks, states_set}
use Rattle.rank_graph.proofs.states.States.enter.Goals as goal

pub set-requires : goal.set-requires
set-requires c = inside_marks _ _ _ _ c.self.view_is c.requires

pub returns : goal.returns
returns c = states_set _ _ _ _ _ _ c.self.view_is c.set.ensures
