use Rattle.std.proofs.Common.{◌≡◌, ℕ, Option, None, Some, List, subst}
use Rattle.std.specs.List.{AllZip}
use Rattle.std.proofs.lemmas.List.{take_all}
use Rattle.name_indexes.proofs.Zips.{zip_push}
use Rattle.name_indexes.proofs.Searches.{read_at}
use Rattle.settling.proofs.lines.all_places.Goals as goal

pub loop-place-preserved : goal.loop-place-preserved
loop-place-preserved c =
    zip_push (λ (place : Option ℕ) (k : ℕ). place ≡ Some k) c.args.places.now _ _ c.loop-place.place-index _ c.in-Some.line c.loop-place-test.true (read_at c.args.places.now c.loop-place.place-index None c.loop-place-test.true) c.in-Some.is c.loop-place.invariant
    c.in_ok-push-in-Some.ensures.ok

pub returns : goal.returns
returns c =
    subst (λ (os : List (Option ℕ)). AllZip (λ (place : Option ℕ) (k : ℕ). place ≡ Some k) os c.loop-place.all) (take_all c.loop-place.place-index c.args.places.now c.loop-place-test.false) c.loop-place.invariant

pub returns-in-None : goal.returns-in-None
returns-in-None c = (c.loop-place.place-index, record { inside = c.loop-place-test.true; none = c.in-None.is })
