use Rattle.rank_graph.proofs.Sharing.{entry_some, entry_none}
use Rattle.rank_graph.proofs.states.Found.entry.Goals as goal

pub returns-in-Some : goal.returns-in-Some
returns-in-Some c = entry_some _ _ _ _ _ _ _ _ c.self.view_is c.as_slice.ensures c.in-Some.ensures c.as_slice-in-Some.ensures c.entry_at.ensures

pub returns-in-None : goal.returns-in-None
returns-in-None c = entry_none _ _ _ _ _ c.self.view_is c.as_slice.ensures c.in-None.ensures
