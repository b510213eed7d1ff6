use Rattle.std.proofs.Common.{◌≡◌, drop, not, eqb}
use Rattle.binding_graph.specs.Bindings.{dropped}
use Rattle.binding_graph.specs.code.Graph.{IsIndexed, NamesTouched, bindings_of}
use Rattle.binding_graph.specs.code.Touched.{ListsTouching}
use Rattle.binding_graph.proofs.graph.Graph.remove_touching.Given as goal

-- those that touch the object are of properties that are still to come
abbrev pub invariant-loop-target : goal.invariant-loop-target
invariant-loop-target l = record {
  indexed : IsIndexed l.self;
  touched : NamesTouched (λ o. not (eqb l.object o)) l.self;
  left : dropped l.object (bindings_of l.self) ≡ dropped l.object (bindings_of l.initial.self);
  listed : ListsTouching l.object (drop l.target-index l.targets) l.self;
}
