use Rattle.std.proofs.Common.{◌≡◌, drop}
use Rattle.prop_bindings.specs.Plans.{assigned}
use Rattle.machine_rules.specs.Operations.{sets_in}
use Rattle.run_context.proofs.Overlaid.{continued}
use Rattle.run_context.proofs.statements.paths.Scope.sets.Given as goal

-- what was found, with what the sets that are left write after it
abbrev pub invariant-loop-set : goal.invariant-loop-set
invariant-loop-set l = continued l.self.this l.self.arguments.now l.found (assigned l.written.entries l.self.objects.now) (drop l.set-index l.sets) ≡ sets_in l.self.objects.now l.self.this l.self.arguments.now l.sets
