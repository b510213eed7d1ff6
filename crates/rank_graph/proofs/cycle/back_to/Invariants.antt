use Rattle.std.proofs.Common.{◌≡◌, ◌⊎◌, List, ℕ, ◌<◌, length, reverse, ◌∷◌}
use Rattle.effect_scan.specs.Rows.{Edge}
use Rattle.rank_graph.specs.Walks.{LeadsBy}
use Rattle.rank_graph.specs.Searching.{OnPath, Climbs}
use Rattle.rank_graph.proofs.Searching.{AreSoFar}
use Rattle.rank_graph.proofs.cycle.back_to.Given as goal

abbrev pub invariant-loop-current : goal.invariant-loop-current
invariant-loop-current l =
    ((l.target ≡ l.current) ⊎ OnPath l.target l.path)
    × ((rows : List (List ℕ)) → Climbs rows l.top l.initial.path → Climbs rows l.current l.path × ((ws : List ℕ) × (reverse l.nodes.items ≡ l.current ∷ ws) × LeadsBy (Edge rows) l.current ws l.top))
    × (0 < length l.nodes.items)
    × AreSoFar l.current l.path l.nodes.items

abbrev pub decreases-loop-current : goal.decreases-loop-current
decreases-loop-current l = length l.path
