use Rattle.std.proofs.Common.{◌∙◌}
use Rattle.std.specs.Option.{option_copied}
use Rattle.run_context.proofs.Overlaid.{overlaid-reference}
use Rattle.run_context.proofs.statements.paths.Scope.seen_reference.Goals as goal

pub returns : goal.returns
returns c = c.seen_reference.ensures ∙ overlaid-reference (option_copied c.args.self.now.written) c.args.self.now.objects.now c.args.reference
