use Rattle.std.proofs.Common.{◌≡◌, map, take}
use Rattle.meta_model.specs.declared.object.MetaProperty.{MetaProperty}
use Rattle.object_tree.proofs.values.Values.initial.Given as goal

abbrev pub invariant-loop-property : goal.invariant-loop-property
invariant-loop-property l = l.items.items ≡ map (λ (q : MetaProperty). q.initial) (take l.property-index l.properties)
