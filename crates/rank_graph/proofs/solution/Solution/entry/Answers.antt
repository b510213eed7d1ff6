use Rattle.std.proofs.Common.{refl}
use Rattle.rank_graph.proofs.Walking.{entry_found, entry_none}
use Rattle.rank_graph.proofs.solution.Solution.entry.Goals as goal

pub returns-in-Some : goal.returns-in-Some
returns-in-Some c = entry_found c.args.self.now c.args.group c.args.node _ _ _ _ c.as_slice.ensures c.in-Some.ensures refl c.entry.ensures

pub returns-in-None : goal.returns-in-None
returns-in-None c = entry_none c.args.self.now c.args.group c.args.node _ _ refl c.as_slice.ensures c.in-None.ensures
