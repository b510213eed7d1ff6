use Rattle.std.proofs.Common.{◌≡◌, None, replicate}
use Rattle.meta_model.proofs.class_places.ClassPlaces.empty.Given as goal

abbrev pub invariant-loop-class : goal.invariant-loop-class
invariant-loop-class l = l.last ≡ replicate l.class None
