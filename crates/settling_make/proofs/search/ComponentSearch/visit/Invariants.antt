use Rattle.std.proofs.Common.{◌+◌, ◌∷◌}
use Rattle.settling_make.specs.Searching.{Searching, Since, left_of, left_below}
use Rattle.settling_make.proofs.search.ComponentSearch.visit.Given as goal

abbrev pub invariant-search : goal.invariant-search
invariant-search l = Searching l.rows l.self l.path l.at × Since l.fn.self l.root l.self

abbrev pub decreases-search : goal.decreases-search
decreases-search l = left_of l.rows l.self.states + left_below (l.at ∷ l.path)
