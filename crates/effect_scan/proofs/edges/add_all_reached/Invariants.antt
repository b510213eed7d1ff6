use Rattle.std.proofs.Common.{take}
use Rattle.effect_scan.specs.Effects.{Gathers}
use Rattle.effect_scan.specs.code.NodePlaces.{IsReached, OfSome}
use Rattle.effect_scan.proofs.edges.add_all_reached.Given as goal

abbrev pub invariant-loop-effect : goal.invariant-loop-effect
invariant-loop-effect l = Gathers (OfSome (IsReached l.places l.class) (take l.effect-index l.effects)) l.initial.numbers l.numbers
