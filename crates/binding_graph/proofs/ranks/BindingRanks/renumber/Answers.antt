use Rattle.std.proofs.Common.{◌≡◌, ◌∙◌, ◌+◌, ◌∷◌, ℕ, List, suc, length, drop, ap, sym, subst, arith}
use Rattle.std.proofs.Math.ListN.{drop_of_length-le}
use Rattle.indexmap.specs.IndexMap.{get}
use Rattle.binding_graph.specs.declared.place.Place.{Place}
use Rattle.binding_graph.specs.code.Keys.{key_of, same_key}
use Rattle.binding_graph.specs.code.BindingRanks.{RankAll, rank_of}
use Rattle.binding_graph.proofs.Ranked.{next-is}
use Rattle.binding_graph.proofs.Ranking.{ranked-next}
use Rattle.binding_graph.proofs.ranks.BindingRanks.renumber.Goals as goal

pub loop-place-preserved : goal.loop-place-preserved
loop-place-preserved c =
    let x : Place = c.place-item.result in
    let rest : List Place = drop (c.loop-place.place-index + 1) c.args.places.now in
    let cut : drop c.loop-place.place-index c.args.places.now ≡ x ∷ rest = next-is c.args.places.now c.loop-place.place-index x c.loop-place-test.true c.place-item.is in
    let left : length (drop c.loop-place.place-index c.args.places.now) ≡ suc (length rest) = ap (λ (ps : List Place). length ps) cut in
    record {
      room = (omega (arith, left, c.loop-place.invariant.room.0, c.insert.ensures.spare), omega (arith, left, c.loop-place.invariant.room.1));
      ranked = λ F all. ranked-next F x rest (rank_of c.loop-place.self) (λ q. get same_key c.insert.new.self (key_of q)) c.loop-place.self.next
          (subst (λ (ps : List Place). RankAll F ps c.loop-place.self) cut (c.loop-place.invariant.ranked F all))
          (ap (get same_key c.insert.new.self) (sym c.key.ensures) ∙ c.in-Ok.ensures.updates.1)
          (λ q f. c.in-Ok.ensures.updates.2 (key_of q) (ap (λ (k : ℕ × ℕ). same_key k (key_of q)) c.key.ensures ∙ f));
    }

pub returns : goal.returns
returns c = λ F all. subst (λ (ps : List Place). RankAll F ps c.loop-place.self) (drop_of_length-le c.args.places.now c.loop-place-test.false) (c.loop-place.invariant.ranked F all)
