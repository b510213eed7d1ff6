use Rattle.std.proofs.Common.{ap, List, length, ◌∙◌}
use Rattle.std.proofs.lemmas.List.{length-replicate}
use Rattle.rank_graph.specs.declared.path.VisitState.{VisitState}
use Rattle.rank_graph.proofs.Driving.{all_fresh, solves}
use Rattle.rank_graph.proofs.search.search.Goals as goal

pub visit_all-requires-clause-states : goal.visit_all-requires-clause-states
visit_all-requires-clause-states c = ap (λ (s : List VisitState). length s) c.in_ok-states.ensures ∙ length-replicate _ _

pub visit_all-requires-clause-fresh : goal.visit_all-requires-clause-fresh
visit_all-requires-clause-fresh c = all_fresh _ _ c.in_ok-states.ensures

pub found-requires : goal.found-requires
found-requires c = c.in_ok-visit_all.ensures.ok.1

pub returns-clause-ok : goal.returns-clause-ok
returns-clause-ok c = solves _ _ _ _ c.in_ok-found.ensures c.requires.own c.in_ok-visit_all.ensures.len c.in_ok-visit_all.ensures.ok
