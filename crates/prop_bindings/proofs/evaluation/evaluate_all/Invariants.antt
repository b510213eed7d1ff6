use Rattle.std.proofs.Common.{◌≡◌, ◌+◌, drop, take}
use Rattle.binding_graph.specs.declared.place.Place.{Place}
use Rattle.prop_bindings.specs.Values.{values_in}
use Rattle.binding_graph.specs.Bindings.{binding_at}
use Rattle.prop_bindings.specs.Changes.{DifferInValues}
use Rattle.binding_graph.specs.code.Graph.{bindings_in, slot_of}
use Rattle.binding_graph.specs.code.Numbering.{AreNumbered}
use Rattle.binding_graph.specs.code.Orders.{pass}
use Rattle.prop_bindings.specs.code.Parts.{IsSoundBySome, StaySound, ahead}
use Rattle.prop_bindings.proofs.evaluation.evaluate_all.Given as goal

abbrev pub invariant-loop-place : goal.invariant-loop-place
invariant-loop-place l = record {
  passed : (q : Place) → pass (binding_at (bindings_in l.installed)) (drop l.place-index l.order) (values_in (ahead l.values l.tree)) q ≡ pass (binding_at (bindings_in l.installed)) l.order (values_in (ahead l.initial.values l.tree)) q;
  objects : DifferInValues (ahead l.initial.values l.tree) (ahead l.values l.tree);
  counted : l.count ≡ l.initial.count + l.place-index;
  by : IsSoundBySome (ahead l.values l.tree) (bindings_in l.installed);
  sound : StaySound (ahead l.initial.values l.tree) (ahead l.values l.tree) (bindings_in l.installed);
  numbered : AreNumbered (slot_of l.installed) (take l.place-index l.order) l.found.items;
}
