use Rattle.name_resolution.proofs.BodyPieces.{points_none, points_this}
use Rattle.name_resolution.proofs.body_resolution.scope.Scope.find_class.Goals as goal

pub returns-in_default : goal.returns-in_default
returns-in_default c = points_none _ _ c.in_default.ensures

pub returns-in-Some : goal.returns-in-Some
returns-in-Some c = points_this _ _ _ _ c.if-kind.true c.in-Some.ensures
