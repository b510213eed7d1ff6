use Rattle.std.proofs.Common.{◌∙◌}
use Rattle.std.specs.Option.{option_copied}
use Rattle.run_context.proofs.Overlaid.{overlaid-seen}
use Rattle.run_context.proofs.statements.paths.Scope.seen.Goals as goal

pub returns : goal.returns
returns c = c.seen.ensures ∙ overlaid-seen (option_copied c.args.self.now.written) c.args.self.now.objects.now c.args.value
