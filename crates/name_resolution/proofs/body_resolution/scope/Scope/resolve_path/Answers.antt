use Rattle.std.proofs.Common.{inr, refl}
use Rattle.name_resolution.specs.code.Bodies.{this_root}
use Rattle.name_resolution.specs.code.Resolving.{scope}
use Rattle.name_resolution.proofs.BodyPieces.{from_root, a_parameter, no_parameter}
use Rattle.name_resolution.proofs.body_resolution.scope.Scope.resolve_path.Goals as goal

pub returns-in_default : goal.returns-in_default
returns-in_default c = inr (c.undeclared.ensures, no_parameter (scope c.args.self.now) _ _ c.in-Name.is c.in_default.ensures)

pub returns-in_ok-start-in-This : goal.returns-in_ok-start-in-This
returns-in_ok-start-in-This c =
    from_root (scope c.args.self.now) c.args.path.now _ _ (rw (c.in-This.is, c.in_ok-start-in-This.ensures) this_root) _ (rw c.as_slice.ensures at c.resolve_from.ensures)

pub returns-in_ok-start-in-Name : goal.returns-in_ok-start-in-Name
returns-in_ok-start-in-Name c =
    from_root (scope c.args.self.now) c.args.path.now _ _
    (rw c.in-Name.is (a_parameter (scope c.args.self.now) _ _ _ _ c.in-Some.ensures c.in_ok-start-in-Name.ensures)) _
    (rw c.as_slice-in-Name.ensures at c.resolve_from-in-Name.ensures)
