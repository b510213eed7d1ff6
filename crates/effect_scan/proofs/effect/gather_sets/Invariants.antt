use Rattle.std.proofs.Common.{take}
use Rattle.effect_scan.specs.declared.node.Member.TheVariants.{Property}
use Rattle.effect_scan.specs.Effects.{Gathers, IsDoneTo}
use Rattle.effect_scan.proofs.effect.gather_sets.Given as goal

abbrev pub invariant-loop-property : goal.invariant-loop-property
invariant-loop-property l = Gathers (IsDoneTo (λ q. Property q) (take l.property-index l.properties)) l.initial.effects l.effects
