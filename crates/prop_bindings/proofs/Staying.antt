-- Properties that read as they did.
use Rattle.std.proofs.Common.{◌≡◌, List, Option, ap, sym, ◌∙◌}
use Rattle.std.specs.Option.{option_map}
use Rattle.std.proofs.Math.Path.{fun_ext}
use Rattle.basic_types.specs.declared.value.Value.{Value}
use Rattle.object_tree.specs.declared.object.Object.{Object}
use Rattle.object_tree.specs.Seen.{seen}
use Rattle.binding_graph.specs.declared.place.Place.{Place}
use Rattle.prop_bindings.specs.Values.{values_in}
use Rattle.prop_bindings.specs.Changes.{DifferInValues, ReadsAlike}
use Rattle.prop_bindings.proofs.Alive.{seen-same}

-- what values read as is the same where nothing but values differs
pub reads-alike : (old new : List Object) → DifferInValues old new → (p : Place) (w : Option Value) → w ≡ values_in old p → option_map (seen new) (values_in new p) ≡ option_map (seen new) w → ReadsAlike old new p
reads-alike old new differ p w at is = is ∙ ap (λ (f : Value → Value). option_map f w) (fun_ext (seen-same old new differ)) ∙ ap (option_map (seen old)) at

-- .. by what is seen of the old objects
module _ (old new : List Object) (differ : DifferInValues old new) (p : Place) (v : Option Value) (is : v ≡ values_in new p) where
  here : option_map (seen new) (values_in new p) ≡ option_map (seen old) v
  here = ap (λ (f : Value → Value). option_map f (values_in new p)) (fun_ext (seen-same old new differ)) ∙ ap (option_map (seen old)) (sym is)

  pub alike-by : option_map (seen old) v ≡ option_map (seen old) (values_in old p) → ReadsAlike old new p
  alike-by same = here ∙ same

  pub alike-from : ReadsAlike old new p → option_map (seen old) v ≡ option_map (seen old) (values_in old p)
  alike-from alike = sym here ∙ alike
