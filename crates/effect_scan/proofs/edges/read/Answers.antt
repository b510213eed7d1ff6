use Rattle.std.proofs.Common.{◌∙◌, ◌++◌, ℕ, List, ap}
use Rattle.meta_model.proofs.Searches.{read_at}
use Rattle.effect_scan.specs.code.NodePlaces.{IsRead}
use Rattle.effect_scan.proofs.Listing.{some_more, some_all}
use Rattle.effect_scan.proofs.edges.read.Goals as goal

pub loop-source-preserved : goal.loop-source-preserved
loop-source-preserved c =
    some_more (IsRead c.args.places.now c.args.formals.now) c.args.sources.now _ _ _ _ _ c.loop-source-test.true (read_at c.args.sources.now c.loop-source.source-index _ c.loop-source-test.true) c.loop-source.invariant c.in_ok-found.ensures
    (c.in_ok-add_all.ensures ∙ ap (λ (l : List ℕ). c.loop-source.all ++ l) c.as_slice.ensures)

pub returns : goal.returns
returns c = some_all (IsRead c.args.places.now c.args.formals.now) c.args.sources.now _ _ _ c.loop-source-test.false c.loop-source.invariant c.fitted.ensures.same
