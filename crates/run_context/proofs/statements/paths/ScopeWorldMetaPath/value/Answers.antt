use Rattle.run_context.specs.code.Scope.{objects_in}
use Rattle.std.proofs.Common.{Option}
use Rattle.basic_types.specs.declared.value.Value.{Value}
use Rattle.machine_rules.specs.Paths.{root_value, path_value}
use Rattle.run_context.proofs.Reading.{steps-none, evaluates-left}
use Rattle.run_context.proofs.statements.paths.ScopeWorldMetaPath.value.Goals as goal

pub returns-in_err-begun : goal.returns-in_err-begun
returns-in_err-begun c =
    let asked : Option Value = path_value (objects_in c.args.self.now) c.args.self.now.this c.args.self.now.arguments.now c.args.path.now in
    let begins : Option Value = root_value c.args.self.now.this c.args.self.now.arguments.now c.args.path.now.root in
    evaluates-left begins asked _ _ (λ none. rw none (steps-none (objects_in c.args.self.now) c.args.path.now.steps)) c.in_err-begun.ensures c.from_residual.ensures.1
