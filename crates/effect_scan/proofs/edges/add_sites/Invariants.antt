use Rattle.std.proofs.Common.{ℕ}
use Rattle.effect_scan.specs.code.Adding.{Adds, AmongFirst}
use Rattle.effect_scan.specs.code.Leading.{SiteLeads}
use Rattle.effect_scan.proofs.edges.add_sites.Given as goal

abbrev pub invariant-loop-site : goal.invariant-loop-site
invariant-loop-site l = Adds (AmongFirst (λ (_ : ℕ). SiteLeads l.places) l.sites l.site-index) l.initial.rows l.rows
