use Rattle.std.proofs.Common.{ℕ, refl}
use Rattle.std.proofs.lemmas.Option.{slice_get_read}
use Rattle.effect_scan.specs.code.Leading.{SiteLeads}
use Rattle.effect_scan.proofs.Adding.{adds_more, adds_all}
use Rattle.effect_scan.proofs.edges.add_sites.Goals as goal

pub loop-site-preserved : goal.loop-site-preserved
loop-site-preserved c = adds_more (λ (_ : ℕ). SiteLeads c.args.places.now) c.args.sites.now _ _ _ _ _ (slice_get_read _ _ _ _ refl c.loop-site-test.true c.site-item.is) c.loop-site.invariant c.in_ok-add_site.ensures

pub returns : goal.returns
returns c = adds_all (λ (_ : ℕ). SiteLeads c.args.places.now) c.args.sites.now _ _ _ c.loop-site-test.false c.loop-site.invariant
