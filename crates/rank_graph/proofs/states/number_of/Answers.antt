use Rattle.rank_graph.proofs.Sharing.{has_known, has_pushed}
use Rattle.rank_graph.proofs.states.number_of.Goals as goal

pub returns-in-Some-clause-ok : goal.returns-in-Some-clause-ok
returns-in-Some-clause-ok c = has_known _ _ _ _ c.as_slice.ensures c.in-Some.ensures

pub returns-clause-ok : goal.returns-clause-ok
returns-clause-ok c = has_pushed _ _ _ _ c.len-number.ensures c.in_ok-push.ensures.ok
