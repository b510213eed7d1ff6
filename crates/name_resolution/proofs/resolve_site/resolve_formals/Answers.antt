use Rattle.std.proofs.Common.{inr, refl, sym, rules}
use Rattle.class_outlines.proofs.Zips.{zip_push}
use Rattle.name_resolution.proofs.resolve_site.resolve_formals.Goals as goal

pub loop-formal-preserved : goal.loop-formal-preserved
loop-formal-preserved c =
    zip_push _ _ _ _ _ _ _ c.loop-formal-test.true c.formal-item.is (search rules) c.loop-formal.invariant c.in_ok-push.ensures.ok

pub returns-in_default : goal.returns-in_default
returns-in_default c =
    inr (c.undeclared.ensures, (c.loop-formal.formal-index, c.formal-item.result, c.loop-formal-test.true, sym c.formal-item.is, λ k h. c.in_default.ensures k h.at))
