use Rattle.std.proofs.Common.{List, ap, ◌∙◌}
use Rattle.binding_graph.specs.declared.binding.Binding.{Binding}
use Rattle.binding_graph.specs.Bindings.{dropped}
use Rattle.prop_bindings.specs.Counts.{Kept}
use Rattle.prop_bindings.proofs.bindings.Bindings.drop_object.Goals as goal

pub returns-clause-left : goal.returns-clause-left
returns-clause-left c = c.drop_object.ensures.left ∙ ap (λ (bs : List Binding). dropped c.args.object bs) (ap (λ (k : Kept). k.installed) c.self.view_is)

pub returns-clause-counted : goal.returns-clause-counted
returns-clause-counted c = ap (λ (k : Kept). k.evaluated) c.self.view_is
