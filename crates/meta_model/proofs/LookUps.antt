-- What a search in the lists of a class says of the loaded program.
use Rattle.std.proofs.Common.{◌≡◌, ℕ, List, length, slice_get, Option, Some, MatchOption, sym, ap, ◌∙◌}
use Rattle.std.proofs.lemmas.Option.{same_Some}
use Rattle.meta_model.specs.declared.object.MetaObject.{MetaObject}
use Rattle.meta_model.specs.declared.object.MetaMethod.{MetaMethod}
use Rattle.meta_model.specs.declared.object.MetaProperty.{MetaProperty}
use Rattle.meta_model.specs.Loaded.{Loaded}
use Rattle.name_indexes.specs.Places.{IsPlace}
use Rattle.meta_model.specs.Members.{IsClass, IsClassNamed, IsMethodNamed, IsPropertyNamed}
use Rattle.name_indexes.proofs.Searches.{answer_of}

module _ (p : Loaded) where
  -- a class has one number
  pub same_class : (c : ℕ) (k class : MetaObject) → IsClass p c k → slice_get p.classes c ≡ Some class → k ≡ class
  same_class c k class h e = same_Some _ _ (sym h.is ∙ e)

  pub class_answer : (name : List ℕ) (xs : List MetaObject) → xs ≡ p.classes → (r : Option ℕ) → IsPlace (λ class. class.name ≡ name) xs r → MatchOption r ((c : ℕ) → ¬ IsClassNamed p name c) (λ c. IsClassNamed p name c)
  class_answer name xs e r h =
      answer_of (λ class. class.name ≡ name) xs (IsClassNamed p name)
      (λ c at. record { class = at.item; is = record { is = ap (λ ys. slice_get ys c) (sym e) ∙ at.is }; named = at.has })
      (λ c n. record { item = n.class; is = ap (λ ys. slice_get ys c) e ∙ n.is.is; has = n.named })
      r h

  module _ (c : ℕ) (class : MetaObject) (is : slice_get p.classes c ≡ Some class) where
    pub method_answer : (name : List ℕ) (count : ℕ) (xs : List MetaMethod) → xs ≡ class.methods → (r : Option ℕ) → IsPlace (λ method. (method.sig.name ≡ name) × (length method.sig.types ≡ count)) xs r → MatchOption r ((m : ℕ) → ¬ IsMethodNamed p c name count m) (λ m. IsMethodNamed p c name count m)
    method_answer name count xs e r h =
        answer_of (λ method. (method.sig.name ≡ name) × (length method.sig.types ≡ count)) xs (IsMethodNamed p c name count)
        (λ m at. record { method = at.item; is = record { class = class; is_class = record { is = is }; is = ap (λ ys. slice_get ys m) (sym e) ∙ at.is }; named = at.has.0; counted = at.has.1 })
        (λ m n. record { item = n.method; is = ap (λ ys. slice_get ys m) (e ∙ ap (λ k. k.methods) (sym (same_class c n.is.class class n.is.is_class is))) ∙ n.is.is; has = (n.named, n.counted) })
        r h

    pub property_answer : (name : List ℕ) (xs : List MetaProperty) → xs ≡ class.properties → (r : Option ℕ) → IsPlace (λ property. property.name ≡ name) xs r → MatchOption r ((q : ℕ) → ¬ IsPropertyNamed p c name q) (λ q. IsPropertyNamed p c name q)
    property_answer name xs e r h =
        answer_of (λ property. property.name ≡ name) xs (IsPropertyNamed p c name)
        (λ q at. record { class = class; is_class = record { is = is }; property = at.item; is = ap (λ ys. slice_get ys q) (sym e) ∙ at.is; named = at.has })
        (λ q n. record { item = n.property; is = ap (λ ys. slice_get ys q) (e ∙ ap (λ k. k.properties) (sym (same_class c n.class class n.is_class is))) ∙ n.is; has = n.named })
        r h
