use Rattle.std.proofs.lemmas.Result.{IfOk-weaker}
use Rattle.effect_scan.proofs.Adding.{join_leads}
use Rattle.effect_scan.proofs.Listing.{some_low}
use Rattle.effect_scan.proofs.Joined.{site_both, read_low}
use Rattle.effect_scan.proofs.edges.add_site.Goals as goal

pub join-requires : goal.join-requires
join-requires c = some_low _ _ _ _ _ (read_low c.args.places.now c.as_slice.result.now _ c.requires) c.in_ok-from.ensures c.as_slice-3.ensures

pub returns : goal.returns
returns c =
    IfOk-weaker _ _ _
    (λ x adds.
    join_leads _ _ _ (site_both c.args.places.now c.args.site.now _ _ _ _ c.expression.ensures c.as_slice-2.ensures c.in_ok-gather_sources.ensures c.new-sources.ensures) _ _ _ _ _ _
    (rw c.as_slice.ensures at c.in_ok-from.ensures) c.in_ok-to.ensures c.as_slice-3.ensures c.as_slice-4.ensures adds)
    c.join.ensures
