use Rattle.std.proofs.Common.{◌≡◌, ◌<◌, ℕ, Bool, List, length, reverse}
use Rattle.rank_graph.specs.Walks.{IsWalk}
use Rattle.program_commands.specs.Ways.{IsTree, OpenEdge, met_at}
use Rattle.program_commands.proofs.ways.way_back.Given as goal

abbrev pub invariant-loop-place : goal.invariant-loop-place
invariant-loop-place l =
    (l.place < length l.found)
    × ((rows : List (List ℕ)) (closed : List Bool) → IsTree rows closed l.found → OpenEdge rows closed (met_at l.found l.at).node l.last →
    IsWalk (OpenEdge rows closed) (met_at l.found l.place).node l.last (reverse l.nodes.items))
    × (1 < length l.nodes.items)

abbrev pub decreases-loop-place : goal.decreases-loop-place
decreases-loop-place l = l.place
