use Rattle.effect_scan.specs.declared.node.Member.TheVariants.{Property}
use Rattle.effect_scan.proofs.Doing.{done_first, done_next, done_all}
use Rattle.effect_scan.proofs.effect.gather_sets.Goals as goal

pub loop-property-init : goal.loop-property-init
loop-property-init c = done_first (λ q. Property q) c.args.properties.now _

pub loop-property-preserved : goal.loop-property-preserved
loop-property-preserved c =
    done_next (λ q. Property q) _ _ _ _ _ c.loop-property-test.true c.loop-property.invariant c.in_ok-push.ensures.ok

pub returns : goal.returns
returns c = done_all (λ q. Property q) _ _ _ _ c.loop-property-test.false c.loop-property.invariant
