use Rattle.std.proofs.Common.{List, ap, subst}
use Rattle.binding_graph.specs.declared.binding.Binding.{Binding}
use Rattle.binding_graph.specs.Bindings.{binding_at}
use Rattle.binding_graph.specs.code.Graph.{Unread}
use Rattle.prop_bindings.specs.Counts.{Kept}
use Rattle.prop_bindings.proofs.bindings.Bindings.is_unread.Goals as goal

pub returns : goal.returns
returns c = λ is. subst (λ (bs : List Binding). Unread (binding_at bs) c.args.place.now) (ap (λ (k : Kept). k.installed) c.self.view_is) (c.is_unread.ensures is)
