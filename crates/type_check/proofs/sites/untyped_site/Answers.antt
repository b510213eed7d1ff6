use Rattle.std.proofs.Common.{List, subst}
use Rattle.meta_model.specs.declared.site.MetaSite.{MetaSite}
use Rattle.type_check.specs.Firsts.{AllHave, IsFirstWithout}
use Rattle.type_check.specs.Typed.{IsTypedSite}
use Rattle.type_check.proofs.Firsts.{have_more, have_all, first_at}
use Rattle.type_check.proofs.sites.untyped_site.Goals as goal

pub returns-in-Some : goal.returns-in-Some
returns-in-Some c =
    subst (λ (xs : List MetaSite). IsFirstWithout (IsTypedSite c.args.meta.now) xs c.loop-number.number) c.sites-site-items.ensures.value
    (first_at _ _ _ _ c.loop-number.invariant c.loop-number-test.true c.site-item.is (rw c.in-Some.is at c.in_ok-site_flaw.ensures).0)

pub loop-number-preserved : goal.loop-number-preserved
loop-number-preserved c = have_more _ _ _ _ c.loop-number.invariant c.loop-number-test.true c.site-item.is (rw c.in-None.is at c.in_ok-site_flaw.ensures)

pub returns : goal.returns
returns c =
    subst (λ (xs : List MetaSite). AllHave (IsTypedSite c.args.meta.now) xs) c.sites-site-items.ensures.value
    (have_all _ _ _ c.loop-number.invariant c.loop-number-test.false)
