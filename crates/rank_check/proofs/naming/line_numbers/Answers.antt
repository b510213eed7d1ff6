use Rattle.meta_model.proofs.Zips.{zip_push}
use Rattle.rank_check.specs.Entries.{HasNumber}
use Rattle.rank_check.proofs.naming.line_numbers.Goals as goal

pub loop-place-preserved : goal.loop-place-preserved
loop-place-preserved c =
    zip_push (HasNumber c.args.meta.now) _ _ _ _ _ _ c.loop-place-test.true c.index-lines-place.is (record { found = c.line_number-number.ensures.value; only = c.line_number-number.ensures.only }) c.loop-place.invariant
    c.in_ok-push.ensures.ok
