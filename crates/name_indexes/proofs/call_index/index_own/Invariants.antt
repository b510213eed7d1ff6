use Rattle.std.proofs.Common.{◌∷◌}
use Rattle.name_indexes.specs.CallPlaces.{place_by}
use Rattle.name_indexes.specs.code.Marks.{AreMarked}
use Rattle.name_indexes.proofs.Indexing.{ArePlacedBefore}
use Rattle.name_indexes.proofs.call_index.index_own.Given as goal

-- the indexes are those of the items so far, with the base's behind them, and their names have their marks
abbrev pub invariant-loop-place : goal.invariant-loop-place
invariant-loop-place g l =
    ArePlacedBefore g.T.Called.name_of g.T.Called.count_of l.items l.place (place_by (l.own.items ∷ l.base)) × AreMarked l.marks l.own.items
