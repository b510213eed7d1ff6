use Rattle.rank_graph.proofs.Sharing.{entry_here, entry_past}
use Rattle.rank_graph.proofs.states.entry_at.Goals as goal

pub returns-in-Some : goal.returns-in-Some
returns-in-Some c = entry_here _ _ _ c.in-Some.ensures

pub returns-in-None : goal.returns-in-None
returns-in-None c = entry_past _ _ _ c.none.ensures.zero c.in-None.ensures
