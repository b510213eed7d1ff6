use Rattle.std.proofs.Common.{◌≡◌, ◌<◌, ℕ, Some, Option, [], inl, inr, length, sym, subst, ◌∙◌, arith, rules}
use Rattle.std.specs.Prelude.{slice_get}
use Rattle.std.specs.List.Sorted.{IsNonDecreasingBy}
use Rattle.std.specs.Map.{values_of}
use Rattle.std.proofs.Math.Path.{fun_ext}
use Rattle.std.proofs.lemmas.Fn.{always_returns_same}
use Rattle.std.proofs.lemmas.List.Sorted.{IsNonDecreasingBy-from_sort}
use Rattle.indexmap.proofs.CallerLemmas.{index_map_len-with_value_at, keys-with_value_at}
use Rattle.indexmap.specs.Layout.{set_value_at}
use Rattle.binding_graph.specs.declared.place.Place.{Place}
use Rattle.binding_graph.specs.code.Keys.{key_of}
use Rattle.binding_graph.specs.code.BindingRanks.{AreRanked}
use Rattle.binding_graph.proofs.Compacting.{Entries, last-or-before, number_in, ranked-compacted, written-before, written-here}
use Rattle.binding_graph.proofs.ranks.BindingRanks.compact.Goals as goal

pub returns-in_err-sort_by_key-clause-kept : goal.returns-in_err-sort_by_key-clause-kept
returns-in_err-sort_by_key-clause-kept c = λ F all. subst (λ (es : Entries). AreRanked F [] (number_in es) c.args.self.now.next) (sym c.in_err-sort_by_key.ensures.err) all

pub loop-index-preserved : goal.loop-index-preserved
loop-index-preserved c =
    let es : Entries = c.loop-index.self.by_place.entries in
    let within : c.loop-index.index < length es = omega (arith, c.loop-index-test.true, c.loop-index.invariant.len, c.len-index-end.ensures.len) in
    record {
      len = index_map_len-with_value_at c.loop-index.self.by_place c.loop-index.index c.loop-index.index ∙ c.loop-index.invariant.len;
      keys = keys-with_value_at c.loop-index.self.by_place c.loop-index.index c.loop-index.index ∙ c.loop-index.invariant.keys;
      counted = λ k below. elim (last-or-before k c.loop-index.index below) [
        | inl before ↦ written-before es c.loop-index.index c.loop-index.index k before ∙ c.loop-index.invariant.counted k before
        | inr last ↦ subst (λ (n : ℕ). slice_get (values_of (set_value_at es c.loop-index.index c.loop-index.index)) n ≡ Some n) (sym last) (written-here es c.loop-index.index c.loop-index.index within)
      ];
      room = c.loop-index.invariant.room;
    }

pub returns-clause-kept : goal.returns-clause-kept
returns-clause-kept c = λ F all.
    let es : Entries = c.sort_by_key.new.self.entries in
    let fs : Entries = c.loop-index.self.by_place.entries in
    let sorted : IsNonDecreasingBy (λ (e : (ℕ × ℕ) × ℕ). e.1) es = IsNonDecreasingBy-from_sort (λ (e : (ℕ × ℕ) × ℕ). e.1) es (c.in_ok-sort_by_key.ensures.sorted (λ (e : (ℕ × ℕ) × ℕ). e.1) (always_returns_same _ (λ a r. r ≡ a.1.0.now) _ (λ a r q k. search rules))) in
    let before : AreRanked F [] (number_in es) c.args.self.now.next = subst (λ (N : Place → Option ℕ). AreRanked F [] N c.args.self.now.next) (sym (fun_ext (λ q. c.sort_by_key.ensures.reordered.2 (key_of q)))) all in
    subst (λ (n : ℕ). AreRanked F [] (number_in fs) n) (sym c.len-self.ensures.len)
    (ranked-compacted es fs c.sort_by_key.ensures.unique sorted c.loop-index.invariant.keys (λ k below. c.loop-index.invariant.counted k (omega (arith, below, c.loop-index-test.false, c.len-index-end.ensures.len, c.loop-index.invariant.len))) F c.args.self.now.next before)
