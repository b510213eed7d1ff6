use Rattle.std.proofs.Common.{◌≡◌, ◌<◌, ◌≤◌, ℕ, Some}
use Rattle.std.specs.Prelude.{slice_get}
use Rattle.indexmap.specs.IndexMap.{index_map_len, keys, values, spare}
use Rattle.binding_graph.proofs.ranks.BindingRanks.compact.Given as goal

-- the first ones have their places as their numbers
abbrev pub invariant-loop-index : goal.invariant-loop-index
invariant-loop-index l = record {
  len : index_map_len l.self.by_place ≡ index_map_len l.initial.self.by_place;
  keys : keys l.self.by_place ≡ keys l.initial.self.by_place;
  counted : (k : ℕ) → k < l.index → slice_get (values l.self.by_place) k ≡ Some k;
  room : spare l.initial.self.by_place ≤ spare l.self.by_place;
}
