use Rattle.std.proofs.Common.{List, ap, ◌∙◌}
use Rattle.binding_graph.specs.declared.place.Place.{Place}
use Rattle.binding_graph.specs.declared.binding.Binding.{Binding}
use Rattle.binding_graph.specs.Bindings.{without_all}
use Rattle.prop_bindings.specs.Counts.{Kept}
use Rattle.prop_bindings.proofs.bindings.Bindings.carry_out_group.Goals as goal

pub returns-clause-left : goal.returns-clause-left
returns-clause-left c = c.remove_all.ensures.left ∙ ap (λ (bs : List Binding). without_all c.as_slice.result.now bs) (ap (λ (k : Kept). k.installed) c.self.view_is) ∙ ap (λ (ps : List Place). without_all ps c.args.self.now.installed) c.as_slice.ensures
