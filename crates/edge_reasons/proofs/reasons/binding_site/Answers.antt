use Rattle.std.proofs.Common.{List, subst}
use Rattle.meta_model.specs.declared.site.MetaSite.{MetaSite}
use Rattle.name_indexes.specs.Places.{StandsFirst, NoneStands}
use Rattle.meta_model.proofs.Searches.{met_first, none_more, none_at_all}
use Rattle.edge_reasons.specs.Reasons.{SiteBinds}
use Rattle.edge_reasons.proofs.reasons.binding_site.Goals as goal

pub returns-then-binds : goal.returns-then-binds
returns-then-binds c =
    subst (λ (listed : List MetaSite). StandsFirst (SiteBinds c.args.meta.now c.args.from c.args.to) listed c.loop-place.place) c.sites-site-items.ensures.value
    (met_first (SiteBinds c.args.meta.now c.args.from c.args.to) _ _ _ c.loop-place.invariant c.loop-place-test.true c.site-item.is (c.binds.ensures.0 c.if-binds.true))

pub loop-place-preserved : goal.loop-place-preserved
loop-place-preserved c =
    none_more (SiteBinds c.args.meta.now c.args.from c.args.to) _ _ _ c.loop-place.invariant c.loop-place-test.true c.site-item.is
    (λ h. let on = c.binds.ensures.1 h in let off = c.if-binds.false in cc)

pub returns : goal.returns
returns c =
    subst (λ (listed : List MetaSite). NoneStands (SiteBinds c.args.meta.now c.args.from c.args.to) listed) c.sites-site-items.ensures.value
    (none_at_all (SiteBinds c.args.meta.now c.args.from c.args.to) _ _ c.loop-place.invariant c.loop-place-test.false)
