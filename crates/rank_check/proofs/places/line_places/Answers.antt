use Rattle.std.proofs.lemmas.Result.{IfOk-weaker}
use Rattle.rank_check.proofs.Placing.{places_told}
use Rattle.rank_check.proofs.places.line_places.Goals as goal

pub returns : goal.returns
returns c = IfOk-weaker _ _ _ (λ found h. places_told c.args.count c.args.numbers.now c.in_ok-places.places c.in_ok-places.ensures found (rw c.as_slice.ensures at h)) c.all_places.ensures
