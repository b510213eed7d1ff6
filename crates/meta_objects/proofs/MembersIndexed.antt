-- The indexes of outlines' members are those of the classes that are made of them.
use Rattle.std.proofs.Common.{◌≡◌, ℕ, List, [], ◌∷◌, length, Option, None, Some, refl, sym, ap, ◌∙◌}
use Rattle.std.specs.List.{AllZip}
use Rattle.basic_types.specs.declared.sig.Sig.{Sig}
use Rattle.syntax_trees.specs.declared.program.Property.{Property}
use Rattle.meta_model.specs.declared.object.MetaMethod.{MetaMethod}
use Rattle.meta_model.specs.declared.object.MetaProperty.{MetaProperty}
use Rattle.meta_model.specs.declared.object.MetaObject.{MetaObject}
use Rattle.class_outlines.specs.declared.outline.Heading.{Heading}
use Rattle.class_outlines.specs.declared.outline.Outline.{Outline}
use Rattle.name_indexes.specs.CallPlaces.{Layers, place_by}
use Rattle.class_outlines.specs.Indexed.{IndexesHeadings, IndexesDeclared}
use Rattle.name_indexes.specs.Places.{StandsAt, IsPlace}
use Rattle.class_outlines.proofs.Zips.{zip_left, zip_right}
use Rattle.name_resolution.specs.declared.body_resolution.work.ResolvedWork.{ResolvedWork}
use Rattle.name_resolution.specs.code.Loading.{IsMethodOf, IsPropertyOf, IsObject}
use Rattle.meta_model.specs.declared.class_index.MemberIndex.{MemberIndex}
use Rattle.meta_model.specs.Indexes.{IndexesProperties, IndexesMethods, IndexesMembers}
use Rattle.meta_objects.specs.code.Outlined.{AreOf, IndexesOutlined}

-- elements at the same places, of which the one has P where the other has Q
module _ {A B : Type 0} (R : A → B → Type 0) (P : A → Type 0) (Q : B → Type 0) (to : (x : A) (y : B) → R x y → P x → Q y) (from : (x : A) (y : B) → R x y → Q y → P x)
    (xs : List A) (ys : List B) (related : AllZip R xs ys) where
  at_other : (k : ℕ) → StandsAt P xs k → StandsAt Q ys k
  at_other k at =
      let other = zip_left R xs ys related k at.item at.is in
      record { item = other.0; is = other.1; has = to at.item other.0 other.2 at.has }

  at_one : (k : ℕ) → StandsAt Q ys k → StandsAt P xs k
  at_one k at =
      let one = zip_right R xs ys related k at.item at.is in
      record { item = one.0; is = one.1; has = from one.0 at.item one.2 at.has }

  place_in_other : (answer : Option ℕ) → IsPlace P xs answer → IsPlace Q ys answer
  place_in_other None none = λ k at. none k (at_one k at)
  place_in_other (Some i) first = record { at = at_other i first.at; first = λ k below at. first.first k below (at_one k at) }

module _ (outlines : List Outline) (works : List (List ResolvedWork)) where
  methods_indexed : (o : Outline) (class : MetaObject) → IsObject outlines works o class → (layers : Layers) → IndexesHeadings o.methods layers → IndexesMethods class.methods layers
  methods_indexed o class is layers indexed name count =
      place_in_other (IsMethodOf outlines works) (λ (h : Heading). (h.sig.name ≡ name) × (length h.sig.types ≡ count)) (λ (m : MetaMethod). (m.sig.name ≡ name) × (length m.sig.types ≡ count))
      (λ h m by called. (ap (λ (s : Sig). s.name) by.signed ∙ called.0, ap (λ (s : Sig). length s.types) by.signed ∙ called.1))
      (λ h m by called. (sym (ap (λ (s : Sig). s.name) by.signed) ∙ called.0, sym (ap (λ (s : Sig). length s.types) by.signed) ∙ called.1))
      o.methods class.methods is.methods (place_by layers count name) (indexed name count)

  properties_indexed : (o : Outline) (class : MetaObject) → IsObject outlines works o class → (layers : Layers) → IndexesDeclared o.properties layers → IndexesProperties class.properties layers
  properties_indexed o class is layers indexed name =
      place_in_other (IsPropertyOf outlines o) (λ (d : Property). (d.name ≡ name) × (0 ≡ 0)) (λ (p : MetaProperty). p.name ≡ name)
      (λ d p by called. by.named ∙ called.0)
      (λ d p by named. (sym by.named ∙ named, refl))
      o.properties class.properties is.properties (place_by layers 0 name) (indexed name 0)

  all_indexed : (os : List Outline) (classes : List MetaObject) (members : List MemberIndex) → AllZip (IsObject outlines works) os classes → AllZip IndexesOutlined os members → AllZip IndexesMembers classes members
  all_indexed [] [] [] are indexed = tt
  all_indexed [] [] (m ∷ ms) are indexed = absurd indexed
  all_indexed [] (c ∷ cs) ms are indexed = absurd are
  all_indexed (o ∷ os) [] ms are indexed = absurd are
  all_indexed (o ∷ os) (c ∷ cs) [] are indexed = absurd indexed
  all_indexed (o ∷ os) (c ∷ cs) (m ∷ ms) are indexed = (
    record { properties = properties_indexed o c are.0 m.properties indexed.0.properties; methods = methods_indexed o c are.0 m.methods indexed.0.methods },
    all_indexed os cs ms are.1 indexed.1,
  )

pub members_indexed : (outlines : List Outline) (classes : List MetaObject) (members : List MemberIndex) → AreOf outlines classes → AllZip IndexesOutlined outlines members → AllZip IndexesMembers classes members
members_indexed outlines classes members are indexed = all_indexed outlines are.0 outlines classes members are.1 indexed
