use Rattle.std.proofs.Common.{eqb, refl}
use Rattle.std.proofs.lemmas.List.Filters.{dedup_is}
use Rattle.effect_scan.proofs.Listing.{ordered_is}
use Rattle.effect_scan.proofs.added.Added.put_in_order.Goals as goal

pub returns : goal.returns
returns c = ordered_is _ _ _ _ _ c.self.view_is c.sort_unstable.ensures.permutation c.sort_unstable.ensures.sorted (dedup_is eqb _ _ c.dedup.ensures.filtered) refl
