use Rattle.run_context.specs.code.Scope.{objects_in}
use Rattle.std.proofs.Common.{ℕ, List, Option, Some}
use Rattle.meta_model.specs.declared.object.Step.{Step}
use Rattle.object_tree.specs.declared.object.Object.{Object}
use Rattle.std.proofs.lemmas.List.{drop_more}
use Rattle.basic_types.specs.declared.value.Value.{Value}
use Rattle.machine_rules.specs.Paths.{steps_value}
use Rattle.run_context.proofs.Reading.{evaluates-left, path-none}
use Rattle.run_context.proofs.statements.paths.Scope.along.Goals as goal

pub returns-in_err-found : goal.returns-in_err-found
returns-in_err-found c =
    let objects : List Object = objects_in c.args.self.now in
    let asked : Option Value = steps_value objects c.args.steps.now (Some c.args.begun) in
    let i : ℕ = c.loop-step.step-index in
    let split = drop_more c.args.steps.now i _ c.loop-step-test.true in
    evaluates-left _ asked _ _ (λ none. path-none objects _ _ _ c.loop-step.found asked c.loop-step.invariant split none) c.in_err-found.ensures c.from_residual.ensures.1
