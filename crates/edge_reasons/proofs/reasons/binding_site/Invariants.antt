use Rattle.std.proofs.Common.{◌<◌, ℕ}
use Rattle.name_indexes.specs.Places.{StandsAt}
use Rattle.edge_reasons.specs.Reasons.{SiteBinds}
use Rattle.edge_reasons.proofs.reasons.binding_site.Given as goal

abbrev pub invariant-loop-place : goal.invariant-loop-place
invariant-loop-place l = (k : ℕ) → k < l.place → ¬ StandsAt (SiteBinds l.meta l.from l.to) l.site-items k
