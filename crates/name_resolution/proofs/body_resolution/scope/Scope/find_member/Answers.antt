use Rattle.name_resolution.proofs.BodyPieces.{no_class_member, no_member, a_member}
use Rattle.name_resolution.proofs.body_resolution.scope.Scope.find_member.Goals as goal

pub returns-in_default : goal.returns-in_default
returns-in_default c = no_class_member _ _ _ c.in_default.ensures

pub returns-in_default-find_property : goal.returns-in_default-find_property
returns-in_default-find_property c = no_member _ _ _ _ _ c.in-Some.ensures c.in_default-find_property.ensures

pub returns : goal.returns
returns c = a_member _ _ _ _ _ c.in-Some.ensures _ _ c.in-Some-find_property.ensures
