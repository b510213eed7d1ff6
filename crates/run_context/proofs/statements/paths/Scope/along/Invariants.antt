use Rattle.run_context.specs.code.Scope.{objects_in}
use Rattle.std.proofs.Common.{◌≡◌, drop, Some}
use Rattle.machine_rules.specs.Paths.{steps_value}
use Rattle.run_context.proofs.statements.paths.Scope.along.Given as goal

-- what the steps that are left give from what was found is what all of them give
abbrev pub invariant-loop-step : goal.invariant-loop-step
invariant-loop-step l = steps_value (objects_in l.self) (drop l.step-index l.steps) (Some l.found) ≡ steps_value (objects_in l.self) l.steps (Some l.fn.begun)
