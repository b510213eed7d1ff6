use Rattle.std.proofs.Common.{List, ap, ◌∙◌}
use Rattle.binding_graph.specs.declared.binding.Binding.{Binding}
use Rattle.binding_graph.specs.Bindings.{without}
use Rattle.prop_bindings.specs.Counts.{Kept}
use Rattle.prop_bindings.proofs.bindings.Bindings.write_alone.Goals as goal

pub returns-clause-left : goal.returns-clause-left
returns-clause-left c = c.remove.ensures.left ∙ ap (λ (bs : List Binding). without c.args.place.now bs) (ap (λ (k : Kept). k.installed) c.self.view_is)
