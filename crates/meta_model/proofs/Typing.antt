-- The types of a value, by what the value is.
use Rattle.std.proofs.Common.{◌≡◌, ℕ, Bool, true, Option, Some, None, IsTrue, ◌↔◌, refl, sym, subst, ◌∙◌}
use Rattle.std.proofs.lemmas.Option.{same_Some}
use Rattle.basic_types.specs.declared.value.Value.TheVariants as value
use Rattle.meta_model.specs.declared.object.ValueType.TheVariants as type
use Rattle.meta_model.specs.Loaded.{Loaded}
use Rattle.meta_model.specs.Members.{Below}
use Rattle.meta_model.specs.Values.{Has}
use Rattle.basic_types.specs.Values.{null_has, object_has}

module _ (p : Loaded) (classes : ℕ → Option ℕ) where
  pub null_typed : (c : ℕ) (constant : Bool) → IsTrue true ↔ Has p classes (value.Ref None) (type.Reference c constant)
  null_typed c constant = (λ t. null_has, λ h. refl)

  object_below : (o c : ℕ) (constant : Bool) (d : ℕ) → classes o ≡ Some d → Has p classes (value.Ref (Some o)) (type.Reference c constant) → Below p d c
  object_below o c constant d is (object_has e below) = subst (λ x. Below p x c) (same_Some _ _ (sym e ∙ is)) below

  pub object_typed : (o c : ℕ) (constant : Bool) (d : ℕ) (r : Bool) → classes o ≡ Some d → (IsTrue r ↔ Below p d c) → IsTrue r ↔ Has p classes (value.Ref (Some o)) (type.Reference c constant)
  object_typed o c constant d r is same = (λ t. object_has is (same.0 t), λ h. same.1 (object_below o c constant d is h))
