use Rattle.name_indexes.proofs.Indexing.{calls_none}
use Rattle.name_indexes.proofs.call_index.index_all.Goals as goal

pub index_over-requires : goal.index_over-requires
index_over-requires g c = rw c.new-none.ensures (calls_none g.T.Called.name_of g.T.Called.count_of c.args.items.now)
