use Rattle.std.proofs.Common.{take}
use Rattle.effect_scan.specs.Effects.{Gathers}
use Rattle.effect_scan.specs.code.NodePlaces.{InEach}
use Rattle.effect_scan.proofs.places.NodePlaces.add_each.Given as goal

abbrev pub invariant-loop-class : goal.invariant-loop-class
invariant-loop-class l = Gathers (InEach l.self.numbering (take l.class-index l.classes) l.member) l.initial.numbers l.numbers
