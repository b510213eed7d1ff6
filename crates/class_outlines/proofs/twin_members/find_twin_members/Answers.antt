use Rattle.std.proofs.Common.{refl, inl, inr}
use Rattle.syntax_trees.specs.declared.program.Property.{Property}
use Rattle.name_indexes.specs.CallPlaces.{AreCalledAlike}
use Rattle.class_outlines.specs.code.OwnMembers.{AreOneProperty}
use Rattle.name_indexes.proofs.Indexing.{twice_also}
use Rattle.class_outlines.proofs.OverBases.{methods_once, properties_once}
use Rattle.class_outlines.proofs.twin_members.find_twin_members.Goals as goal

pub find_twins-requires-clause-indexed : goal.find_twins-requires-clause-indexed
find_twins-requires-clause-indexed c = rw c.as_slice.ensures c.requires.methods_by

pub find_twins-requires-clause-once : goal.find_twins-requires-clause-once
find_twins-requires-clause-once c =
    methods_once c.args.before.now c.args.outline.now c.requires.over c.inherited_methods-inherited.result c.as_slice.result.now c.inherited_methods-inherited.ensures c.as_slice.ensures

pub find_twins-requires-2-clause-indexed : goal.find_twins-requires-2-clause-indexed
find_twins-requires-2-clause-indexed c = rw c.as_slice-2.ensures c.requires.properties_by

pub find_twins-requires-2-clause-once : goal.find_twins-requires-2-clause-once
find_twins-requires-2-clause-once c =
    properties_once c.args.before.now c.args.outline.now c.requires.over c.inherited_properties-others.result c.as_slice-2.result.now c.inherited_properties-others.ensures c.as_slice-2.ensures

pub returns-in-Some : goal.returns-in-Some
returns-in-Some c = rw c.as_slice.ensures at c.in-Some.ensures

pub returns-in-Some-find_twins : goal.returns-in-Some-find_twins
returns-in-Some-find_twins c =
    let are = rw c.as_slice-2.ensures at c.in-Some-find_twins.ensures in
    record { x = are.x; is_x = are.is_x; y = are.y; is_y = are.is_y; before = are.before; are = are.are.0 }

pub returns-in-None : goal.returns-in-None
returns-in-None c = λ two.
    elim two [
      | inl methods ↦ (rw c.as_slice.ensures at c.in_default.ensures) methods
      | inr properties ↦
          (rw c.as_slice-2.ensures at c.in-None.ensures)
          (twice_also AreOneProperty (AreCalledAlike (λ (p : Property). p.name) (λ (p : Property). 0)) c.args.outline.now.properties (λ x y e. (e, refl)) properties)
    ]
