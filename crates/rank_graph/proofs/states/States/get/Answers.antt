use Rattle.rank_graph.proofs.Sharing.{inside_marks, state_read, state_left}
use Rattle.rank_graph.proofs.states.States.get.Goals as goal

pub bounds : goal.bounds
bounds c = rw c.as_slice.ensures (inside_marks _ _ _ _ c.self.view_is c.requires)

pub returns-in-Unmet : goal.returns-in-Unmet
returns-in-Unmet c = state_read _ _ _ _ _ _ c.self.view_is c.as_slice.ensures c.requires c.in-Unmet.is

pub returns-in-Entered : goal.returns-in-Entered
returns-in-Entered c = state_read _ _ _ _ _ _ c.self.view_is c.as_slice.ensures c.requires c.in-Entered.is

pub returns-in-Left : goal.returns-in-Left
returns-in-Left c = state_left _ _ _ _ _ _ _ _ c.self.view_is c.as_slice.ensures c.requires c.in-Left.is c.as_slice-in-Left.ensures c.entry_at.ensures
