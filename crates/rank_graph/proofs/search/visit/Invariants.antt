use Rattle.std.proofs.Common.{◌+◌, ◌-◌, length}
use Rattle.effect_scan.specs.Rows.{row}
use Rattle.rank_graph.specs.Searching.{Searching, Since, left, left_below}
use Rattle.rank_graph.proofs.search.visit.Given as goal

abbrev pub invariant-search : goal.invariant-search
invariant-search l = Searching l.rows l.own l.states l.path l.at × Since l.fn.states l.root l.states

abbrev pub decreases-search : goal.decreases-search
decreases-search l = left l.rows l.states + left_below l.rows l.path + (length (row l.rows l.at.node) - l.at.next)
