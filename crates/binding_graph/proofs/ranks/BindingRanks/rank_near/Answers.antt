use Rattle.std.proofs.Common.{◌≡◌, ◌∙◌, ℕ, List, ap, sym, arith}
use Rattle.std.specs.Prelude.{slice_get}
use Rattle.binding_graph.proofs.Near.{found-at, same_pair}
use Rattle.binding_graph.proofs.ranks.BindingRanks.rank_near.Goals as goal

pub returns-then-key-place : goal.returns-then-key-place
returns-then-key-place c =
    let object : c.in-Some.key.now.0 ≡ c.args.place.now.object = omega (arith, c.if-key-number.true, c.number.ensures) in
    let property : c.in-Some.key.now.1 ≡ c.args.place.now.property = omega (arith, c.if-key-place.true) in
    sym (found-at c.args.self.now.by_place c.as_slice.ensures.unique c.args.likely (c.in-Some.key.now, c.in-Some.rank.now) _
    (ap (λ (es : List ((ℕ × ℕ) × ℕ)). slice_get es c.args.likely) (sym c.as_slice.ensures.entries) ∙ sym c.in-Some.ensures.entry)
    (same_pair c.in-Some.key.now _ _ object property))
