use Rattle.std.proofs.Common.{◌∙◌, sym}
use Rattle.binding_graph.specs.code.Graph.{bindings_of}
use Rattle.binding_graph.proofs.Joining.{joins-touched, none-lead}
use Rattle.binding_graph.proofs.graph.Graph.joins.Goals as goal

pub returns-then-is_empty : goal.returns-then-is_empty
returns-then-is_empty c = sym (none-lead c.args.objects.now (bindings_of c.args.self.now) (c.is_empty.ensures.0 c.if-is_empty.true))

pub returns-in-Ok : goal.returns-in-Ok
returns-in-Ok c = c.joins_touched.ensures ∙ joins-touched c.args.self.now c.requires c.args.objects.now c.in-Ok.touched c.in-Ok.ensures
