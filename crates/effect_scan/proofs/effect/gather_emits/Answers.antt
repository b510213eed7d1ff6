use Rattle.effect_scan.specs.declared.node.Member.TheVariants.{Method}
use Rattle.effect_scan.proofs.Doing.{done_first, done_next, done_all}
use Rattle.effect_scan.proofs.effect.gather_emits.Goals as goal

pub loop-signal-init : goal.loop-signal-init
loop-signal-init c = done_first (λ m. Method m) c.args.signals.now _

pub loop-signal-preserved : goal.loop-signal-preserved
loop-signal-preserved c =
    done_next (λ m. Method m) _ _ _ _ _ c.loop-signal-test.true c.loop-signal.invariant c.in_ok-push.ensures.ok

pub returns : goal.returns
returns c = done_all (λ m. Method m) _ _ _ _ c.loop-signal-test.false c.loop-signal.invariant
