use Rattle.std.proofs.Common.{refl}
use Rattle.rank_graph.proofs.solution.Solution.is_none_in.Goals as goal

pub returns-in-Some : goal.returns-in-Some
returns-in-Some c = rw (← c.in-Some.ensures) c.is_none.ensures

pub returns-in-None : goal.returns-in-None
returns-in-None c = rw (← c.in-None.ensures) ((λ t k low. refl), λ all. refl)
