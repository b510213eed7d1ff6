use Rattle.std.proofs.Common.{subst}
use Rattle.binding_graph.specs.declared.binding.Binding.{Binding}
use Rattle.binding_graph.specs.code.Graph.{AreTouched}
use Rattle.binding_graph.proofs.Graphs.{roomier-graph}
use Rattle.binding_graph.proofs.graph.Graph.make_room.Goals as goal

pub returns-in_err-reserve-clause-graph : goal.returns-in_err-reserve-clause-graph
returns-in_err-reserve-clause-graph c = roomier-graph c.args.self.now _ c.requires.graph c.reserve.ensures.keyed c.reserve.ensures.same (λ F all. all) (λ o q t. t) (λ m q i. i)

pub returns-in_err-reserve-2-clause-graph : goal.returns-in_err-reserve-2-clause-graph
returns-in_err-reserve-2-clause-graph c = roomier-graph c.args.self.now _ c.requires.graph c.reserve.ensures.keyed c.reserve.ensures.same c.reserve-2.ensures.kept (λ o q t. t) (λ m q i. i)

pub returns-in_err-enlist-clause-graph : goal.returns-in_err-enlist-clause-graph
returns-in_err-enlist-clause-graph c = roomier-graph c.args.self.now _ c.requires.graph c.reserve.ensures.keyed c.reserve.ensures.same c.reserve-2.ensures.kept (λ o q t. t) c.enlist.ensures.kept

pub returns-clause-graph : goal.returns-clause-graph
returns-clause-graph c = roomier-graph c.args.self.now _ c.requires.graph c.reserve.ensures.keyed c.reserve.ensures.same c.reserve-2.ensures.kept c.add_binding.ensures.kept c.enlist.ensures.kept

pub returns-in_err-add_binding-clause-graph : goal.returns-in_err-add_binding-clause-graph
returns-in_err-add_binding-clause-graph c = roomier-graph c.args.self.now _ c.requires.graph c.reserve.ensures.keyed c.reserve.ensures.same c.reserve-2.ensures.kept c.add_binding.ensures.kept c.enlist.ensures.kept

pub returns-clause-touched : goal.returns-clause-touched
returns-clause-touched c = subst (λ (b : Binding). AreTouched c.add_binding.new.self b) c.binding.ensures c.in_ok-add_binding.ensures.touched
