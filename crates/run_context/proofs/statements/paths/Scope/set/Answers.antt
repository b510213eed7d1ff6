use Rattle.run_context.specs.code.Scope.{objects_in}
use Rattle.run_context.proofs.Yielding.{set-no-target, set-nothing, set-no-value, set-writes}
use Rattle.run_context.proofs.statements.paths.Scope.set.Goals as goal

pub returns-in_err-object : goal.returns-in_err-object
returns-in_err-object c = set-no-target (objects_in c.args.self.now) c.args.self.now.this c.args.self.now.arguments.now c.args.path.now c.args.property c.args.value.now _ _ c.in_err-object.ensures c.from_residual.ensures.1

pub returns-in_default : goal.returns-in_default
returns-in_default c = set-nothing (objects_in c.args.self.now) c.args.self.now.this c.args.self.now.arguments.now c.args.path.now c.args.property c.args.value.now (rw c.in_default.is at c.in_ok-object.ensures)

pub returns-in_err-value : goal.returns-in_err-value
returns-in_err-value c = set-no-value (objects_in c.args.self.now) c.args.self.now.this c.args.self.now.arguments.now c.args.path.now c.args.property c.args.value.now _ _ _ (rw c.in-Some.is at c.in_ok-object.ensures) c.in_err-value.ensures c.from_residual-in_err-value.ensures.1

pub returns : goal.returns
returns c = set-writes (objects_in c.args.self.now) c.args.self.now.this c.args.self.now.arguments.now c.args.path.now c.args.property c.args.value.now (rw c.in-Some.is at c.in_ok-object.ensures) c.in_ok-value.ensures
