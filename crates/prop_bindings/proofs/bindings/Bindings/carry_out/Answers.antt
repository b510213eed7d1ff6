use Rattle.std.proofs.Common.{List, ap, ◌∙◌}
use Rattle.binding_graph.specs.declared.binding.Binding.{Binding}
use Rattle.binding_graph.specs.Bindings.{without}
use Rattle.prop_bindings.specs.Counts.{Kept}
use Rattle.prop_bindings.proofs.bindings.Bindings.carry_out.Goals as goal

pub returns-clause-left : goal.returns-clause-left
returns-clause-left c = c.remove.ensures.left ∙ ap (λ (bs : List Binding). without c.args.planned.target bs) (ap (λ (k : Kept). k.installed) c.self.view_is)
