use Rattle.std.proofs.Common.{take}
use Rattle.effect_scan.specs.Effects.{BodyHas, Gathers}
use Rattle.effect_scan.proofs.effect.+bodies.Given as goal

abbrev pub invariant-gather-loop-statement : goal.invariant-gather-loop-statement
invariant-gather-loop-statement l = Gathers (BodyHas l.types (take l.statement-index l.body)) l.initial.effects l.effects
