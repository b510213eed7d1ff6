use Rattle.binding_graph.proofs.Noted.{none-kept, none-noted}
use Rattle.binding_graph.proofs.installed.Installed.is_empty.Goals as goal

pub returns : goal.returns
returns c = (
  (λ yes. none-kept c.args.self.now c.requires (c.is_empty.ensures.0 yes)),
  (λ none. c.is_empty.ensures.1 (none-noted c.args.self.now c.requires none)),
)
