use Rattle.std.proofs.Common.{take}
use Rattle.effect_scan.specs.declared.node.Member.TheVariants.{Method}
use Rattle.effect_scan.specs.Effects.{Gathers, IsDoneTo}
use Rattle.effect_scan.proofs.effect.gather_emits.Given as goal

abbrev pub invariant-loop-signal : goal.invariant-loop-signal
invariant-loop-signal l = Gathers (IsDoneTo (λ m. Method m) (take l.signal-index l.signals)) l.initial.effects l.effects
