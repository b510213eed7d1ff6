use Rattle.std.proofs.Common.{take}
use Rattle.effect_scan.specs.code.NodePlaces.{AreJust, IsRead, OfSome}
use Rattle.effect_scan.proofs.edges.read.Given as goal

abbrev pub invariant-loop-source : goal.invariant-loop-source
invariant-loop-source l = AreJust (OfSome (IsRead l.places l.formals) (take l.source-index l.sources)) l.all
