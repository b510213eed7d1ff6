use Rattle.std.proofs.Common.{◌≡◌, ◌++◌, ◌-◌, ◌≤◌, map}
use Rattle.std.specs.List.{range_with_len}
use Rattle.meta_model.specs.declared.qobject.TheConstants.{OBJECT_NAME_CHANGED}
use Rattle.effect_scan.specs.declared.node.Member.TheVariants.{Method, Property}
use Rattle.effect_scan.specs.Nodes.{node}
use Rattle.effect_scan.proofs.numbering.push_nodes.Given as goal

abbrev pub invariant-loop-method : goal.invariant-loop-method
invariant-loop-method l = (l.nodes ≡ l.initial.nodes ++ map (λ m. node l.class (Method m)) (range_with_len OBJECT_NAME_CHANGED (l.method - OBJECT_NAME_CHANGED))) × (l.method - OBJECT_NAME_CHANGED ≤ l.shape.methods - OBJECT_NAME_CHANGED)

abbrev pub invariant-loop-property : goal.invariant-loop-property
invariant-loop-property l = l.nodes ≡ l.initial.nodes ++ map (λ q. node l.class (Property q)) (range_with_len 0 l.property)
