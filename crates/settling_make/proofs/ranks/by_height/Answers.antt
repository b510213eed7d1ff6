use Rattle.std.proofs.Common.{rules}
use Rattle.std.proofs.lemmas.List.Sorted.{Contains-permutation, IsPermutation-sym, IsNonDecreasingBy-from_sort_by_key}
use Rattle.rank_graph.specs.Solutions.{rank_of}
use Rattle.settling_make.proofs.ranks.by_height.Goals as goal

pub returns : goal.returns
returns c =
    let moved = rw c.in_ok-sorted.ensures.items at c.in_ok-sort_by_key.ensures.permutation in
    rw c.from_vec.ensures (record {
      among = λ a h. Contains-permutation _ _ a (IsPermutation-sym _ _ moved) h;
      each = λ a h. Contains-permutation _ _ a moved h;
      order = IsNonDecreasingBy-from_sort_by_key (rank_of c.args.heights.now) _ c.in_ok-sort_by_key.ensures.sorted (λ a r q k. search rules);
    })
