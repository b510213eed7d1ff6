use Rattle.std.proofs.Common.{◌<◌, length, get_or}
use Rattle.std.proofs.lemmas.Option.{slice_get-get_or}
use Rattle.meta_model.proofs.Zips.{zip_push}
use Rattle.meta_model.proofs.Searches.{read_at}
use Rattle.rank_check.specs.Entries.{IsEntryAt}
use Rattle.rank_check.proofs.Elements.{at_index}
use Rattle.rank_check.proofs.entries.entries_at.Goals as goal

pub loop-place-preserved : goal.loop-place-preserved
loop-place-preserved c =
    let place = slice_get-get_or c.args.places.now c.loop-place.place-index 0 c.loop-place-test.true in
    let inside : get_or c.args.places.now c.loop-place.place-index 0 < length c.args.lines.now = c.requires.inside c.loop-place.place-index _ place in
    let here = at_index c.args.lines.now _ c.index-lines-place.result inside c.index-lines-place.is in
    let found = rw c.in-Ok.is at c.in_ok-entry.ensures in
    zip_push (IsEntryAt c.args.meta.now c.args.lines.now) c.args.places.now _ _ c.loop-place.place-index _ c.in-Ok.entry c.loop-place-test.true (read_at c.args.places.now c.loop-place.place-index 0 c.loop-place-test.true)
    (record { line = c.index-lines-place.result; stands = here; place = found.0; is = found.1 }) c.loop-place.invariant c.in_ok-push-in-Ok.ensures.ok

pub returns-in-Err : goal.returns-in-Err
returns-in-Err c =
    let place = slice_get-get_or c.args.places.now c.loop-place.place-index 0 c.loop-place-test.true in
    let inside : get_or c.args.places.now c.loop-place.place-index 0 < length c.args.lines.now = c.requires.inside c.loop-place.place-index _ place in
    record { line = c.index-lines-place.result; stands = at_index c.args.lines.now _ c.index-lines-place.result inside c.index-lines-place.is; none = rw c.in-Err.is at c.in_ok-entry.ensures }
