-- Two members that are one.
use Rattle.std.proofs.Common.{inl, inr}
use Rattle.class_outlines.specs.declared.outline.Outline.{Outline}
use Rattle.class_outlines.specs.declared.twin_members.TwinMembers.{TwinMembers}
use Rattle.class_outlines.specs.declared.twin_members.TwinMembers.TheVariants as twins
use Rattle.class_outlines.specs.Clashes.{AreOneCall, HasTwoMembers}
use Rattle.class_outlines.specs.code.OwnMembers.{AreOneProperty, AreTwinMembers}
use Rattle.class_outlines.proofs.OwnPlaces.{twins_twice}

pub two_members : (o : Outline) (t : TwinMembers) → AreTwinMembers o t → HasTwoMembers o
two_members o (twins.Methods t) are = inl (twins_twice AreOneCall o.methods t are)
two_members o (twins.Properties t) are = inr (twins_twice AreOneProperty o.properties t are)
