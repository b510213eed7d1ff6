use Rattle.std.proofs.Common.{ℕ, Option, Some, None, ap, ◌∙◌, below_more}
use Rattle.std.proofs.lemmas.Option.{slice_get-get_or}
use Rattle.rank_check.proofs.Placing.{is_second, is_placed}
use Rattle.rank_check.proofs.places.first_extra.Goals as goal

pub returns-then-last-place : goal.returns-then-last-place
returns-then-last-place c =
    let is_for = slice_get-get_or c.args.numbers.now c.loop-place.place None c.loop-place-test.true ∙ ap (λ (o : Option ℕ). Some o) c.in-Some.is in
    is_second c.args.numbers.now c.args.places.now c.loop-place.place c.in-Some.node is_for 0 (c.requires c.loop-place.place c.in-Some.node is_for) c.if-last-place.true

pub returns-in-None : goal.returns-in-None
returns-in-None c = slice_get-get_or c.args.numbers.now c.loop-place.place None c.loop-place-test.true ∙ ap (λ (o : Option ℕ). Some o) c.in-None.is

pub loop-place-preserved : goal.loop-place-preserved
loop-place-preserved c =
    let is_for = slice_get-get_or c.args.numbers.now c.loop-place.place None c.loop-place-test.true ∙ ap (λ (o : Option ℕ). Some o) c.in-Some.is in
    below_more _ _ c.loop-place.invariant
    (is_placed c.args.numbers.now c.args.places.now c.loop-place.place c.in-Some.node is_for 0 (c.requires c.loop-place.place c.in-Some.node is_for) c.if-last-place.false)
