use Rattle.std.proofs.Common.{◌≡◌, take}
use Rattle.class_outlines.proofs.outlining.own_properties.Given as goal

abbrev pub invariant-loop-property : goal.invariant-loop-property
invariant-loop-property l = l.own ≡ take l.property-index l.properties
