use Rattle.std.proofs.lemmas.Result.{IfOk-weaker}
use Rattle.effect_scan.proofs.Adding.{join_leads}
use Rattle.effect_scan.proofs.Listing.{each_low}
use Rattle.effect_scan.proofs.Joined.{wire_both}
use Rattle.effect_scan.proofs.edges.add_wire.Goals as goal

pub join-requires : goal.join-requires
join-requires c = each_low _ _ _ _ _ _ c.in_ok-from-in_default.ensures c.as_slice.ensures c.requires

pub returns-in_ok-to-in_default : goal.returns-in_ok-to-in_default
returns-in_ok-to-in_default c = IfOk-weaker _ _ _ (λ x adds. join_leads _ _ _ (wire_both c.args.places.now c.args.wire.now _ c.named.ensures c.in_default.not-Queued) _ _ _ _ _ _ c.in_ok-from-in_default.ensures c.in_ok-to-in_default.ensures c.as_slice.ensures c.as_slice-in_default.ensures adds) c.join.ensures
