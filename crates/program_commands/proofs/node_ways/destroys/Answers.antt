use Rattle.std.proofs.Common.{sym, ◌∙◌}
use Rattle.effect_scan.proofs.Containing.{has_any, any_has}
use Rattle.rank_graph.proofs.Walking.{edge_of, row_has}
use Rattle.program_commands.proofs.node_ways.destroys.Goals as goal

pub returns-in-Destruction : goal.returns-in-Destruction
returns-in-Destruction c = (
  λ has. (c.in-Destruction.is, edge_of _ _ _ _ (rw c.destroys.ensures at c.row_at.ensures) (has_any _ _ (sym c.contains.ensures.value ∙ has))),
  λ is. c.contains.ensures.value ∙ any_has _ _ (row_has _ _ _ _ (rw c.destroys.ensures at c.row_at.ensures) is.1),
)
