use Rattle.std.proofs.Common.{◌<◌, length, get_or}
use Rattle.std.proofs.lemmas.Option.{slice_get-get_or}
use Rattle.name_indexes.proofs.Zips.{zip_push}
use Rattle.name_indexes.proofs.Searches.{read_at}
use Rattle.rank_check.proofs.Elements.{at_index}
use Rattle.rank_check.proofs.Listing.{none_there}
use Rattle.settling.specs.code.Standings.{IsSetAt}
use Rattle.settling.proofs.destroy_sets.destroy_sets.Goals as goal

pub loop-place-preserved : goal.loop-place-preserved
loop-place-preserved c =
    let place = slice_get-get_or c.args.places.now c.loop-place.place-index 0 c.loop-place-test.true in
    let inside : get_or c.args.places.now c.loop-place.place-index 0 < length c.args.lines.now = c.requires.inside c.loop-place.place-index _ place in
    let here = at_index c.args.lines.now _ c.index-lines-place.result inside c.index-lines-place.is in
    let found = rw (c.as_slice.ensures, c.in-Ok.is) at c.in_ok-set.ensures in
    zip_push (IsSetAt c.args.meta.now c.args.lines.now) c.args.places.now _ _ c.loop-place.place-index _ c.in-Ok.set c.loop-place-test.true (read_at c.args.places.now c.loop-place.place-index 0 c.loop-place-test.true)
    (record { line = c.index-lines-place.result; stands = here; is = found }) c.loop-place.invariant c.in_ok-push-in-Ok.ensures.ok

pub returns-in-Err : goal.returns-in-Err
returns-in-Err c =
    let place = slice_get-get_or c.args.places.now c.loop-place.place-index 0 c.loop-place-test.true in
    let inside : get_or c.args.places.now c.loop-place.place-index 0 < length c.args.lines.now = c.requires.inside c.loop-place.place-index _ place in
    let here = at_index c.args.lines.now _ c.index-lines-place.result inside c.index-lines-place.is in
    let none = rw (c.as_slice.ensures, c.in-Err.is) at c.in_ok-set.ensures in
    record { place = _; line = c.index-lines-place.result; stands = here; none = none_there c.args.meta.now _ _ none }
