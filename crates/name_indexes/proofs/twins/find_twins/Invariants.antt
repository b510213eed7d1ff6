use Rattle.name_indexes.proofs.Indexing.{AreFirstBefore}
use Rattle.name_indexes.proofs.twins.find_twins.Given as goal

abbrev pub invariant-loop-place : goal.invariant-loop-place
invariant-loop-place g l = AreFirstBefore g.T.Called.name_of g.T.Called.count_of l.items l.index l.place
