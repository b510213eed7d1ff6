use Rattle.std.proofs.Common.{inr, refl, sym, rules}
use Rattle.class_outlines.proofs.Zips.{zip_push}
use Rattle.name_resolution.proofs.resolve_native.resolve_named.Goals as goal

pub loop-name-preserved : goal.loop-name-preserved
loop-name-preserved c =
    zip_push _ _ _ _ _ _ _ c.loop-name-test.true c.name-item.is (search rules) c.loop-name.invariant c.in_ok-push.ensures.ok

pub returns-in_default : goal.returns-in_default
returns-in_default c =
    inr (
      c.no_property.ensures,
      (c.loop-name.name-index, c.name-item.result, c.loop-name-test.true, sym c.name-item.is, λ q h. c.in_default.ensures h.number q h.property h.is),
    )
