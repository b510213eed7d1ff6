-- What fits, and how it reads.
use Rattle.std.proofs.Common.{◌-◌, List, subst}
use Rattle.std.specs.List.{Contains}
use Rattle.std.proofs.lemmas.List.Elements.{All-contains, All-from_recursion}
use Rattle.basic_types.specs.declared.value.Value.{Value}
use Rattle.meta_model.specs.declared.object.MetaProperty.{MetaProperty}
use Rattle.meta_model.specs.Loaded.{Loaded}
use Rattle.object_tree.specs.declared.object.Object.{Object}
use Rattle.object_tree.specs.Typed.{ReadsAs}
use Rattle.binding_graph.specs.declared.place.Place.{Place}
use Rattle.prop_bindings.specs.declared.plans.assignment.Assignment.{Assignment}
use Rattle.prop_bindings.specs.Calls.{AllFit}
use Rattle.prop_bindings.specs.Fits.{FitsAt}
use Rattle.machine_state.specs.Worlds.{at}
use Rattle.machine_rules.specs.There.{IsField}
use Rattle.machine_rules.proofs.Fields.{field-property}

-- a property for which a value fits
pub fits-field : {p : Loaded} {objects : List Object} {at : Place} {v : Value} → (f : FitsAt p objects at v) → IsField p objects at.object at.property f.object f.property
fits-field f = record {
  life = f.life;
  lives = f.lives;
  class = (f.is_property).class;
  is_class = (f.is_property).is_class;
  is_property = (f.is_property).is;
}

-- what fits reads as its property's type
pub fits-read : {p : Loaded} {objects : List Object} (writes : List Assignment) → AllFit p objects writes → (set : Assignment) → Contains writes set → {x : Object} {property : MetaProperty} → IsField p objects set.place.object set.place.property x property → ReadsAs p objects set.value property.kind
fits-read {p} {objects} writes fit set among {x} {property} field =
    let f = All-contains (λ (a : Assignment). FitsAt p objects a.place a.value) writes set (All-from_recursion (λ (a : Assignment). FitsAt p objects a.place a.value) writes fit) among in
    let own : IsField p objects set.place.object set.place.property f.object f.property = fits-field f in
    subst (λ (k : MetaProperty). ReadsAs p objects set.value k.kind) (field-property own field) f.reads
