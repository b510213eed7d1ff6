-- What is written down of a change before it is carried out, over the objects as they are, is what the change makes of
-- them.
use Rattle.std.{proofs.Common.{◌≡◌, ℕ, List, Option, None, Some, refl, ap, sym, ◌∙◌}, specs.Prelude.{slice_get}, specs.Option.{option_map}, proofs.lemmas.Option.{same_Some}}
use Rattle.basic_types.specs.declared.value.Value.{Value}
use Rattle.basic_types.specs.declared.value.Value.TheVariants as value
use Rattle.meta_model.specs.{declared.object.MetaObject.{MetaObject}, declared.object.MetaProperty.{MetaProperty}, Loaded.{Loaded}}
use Rattle.object_tree.specs.{declared.life.Life.{Life}, declared.object.Object.{Object}, Objects.{Lives, name_of}, Seen.{seen_reference}}
use Rattle.binding_graph.specs.declared.place.Place.{Place}
use Rattle.prop_bindings.{specs.Changes.{valueless, DifferInValues}, proofs.Alive.{seen-same}}
use Rattle.trace_entries.specs.{declared.entry.Entry.{Entry}, declared.entry.Entry.TheVariants.{At}, declared.entry.Shown.{Shown}}
use Rattle.machine_state.{specs.declared.changes.telling.Cause.{Cause}, specs.Objects.{shown, shown_name, shown_reference}, specs.Telling.{HasValue, IsToldWith, entry_kind_of}, proofs.Changed.{emptied, get-map}}

name-valueless : (there : Option Object) → option_map (λ (x : Object). x.name) (option_map valueless there) ≡ option_map (λ (x : Object). x.name) there
name-valueless None = refl
name-valueless (Some x) = refl

module _ (old new : List Object) (differ : DifferInValues old new) where
  -- an object is as it was, but for the values of its properties
  alike : (o : ℕ) → option_map valueless (slice_get new o) ≡ option_map valueless (slice_get old o)
  alike o = sym (get-map valueless new o) ∙ ap (λ (xs : List Object). slice_get xs o) differ ∙ get-map valueless old o

  name-alike : (o : ℕ) → name_of new o ≡ name_of old o
  name-alike o =
      sym (name-valueless (slice_get new o)) ∙ ap (option_map (λ (x : Object). x.name)) (alike o) ∙ name-valueless (slice_get old o)

  -- values are shown as they were
  reference-alike : (r : Option ℕ) → shown_reference new r ≡ shown_reference old r
  reference-alike None = refl
  reference-alike (Some o) = ap shown_name (name-alike o)

  pub shown-alike : (v : Value) → shown new v ≡ shown old v
  shown-alike (value.Int n) = refl
  shown-alike (value.Bool b) = refl
  shown-alike (value.Text t) = refl
  shown-alike (value.Ref r) =
      let both : value.Ref (seen_reference new r) ≡ value.Ref (seen_reference old r) = seen-same old new differ (value.Ref r) in
      let same : seen_reference new r ≡ seen_reference old r = cc both in
      reference-alike (seen_reference new r) ∙ ap (shown_reference old) same

  -- a property that will have a value is written down with one
  pub told-ahead : (p : Loaded) (d : ℕ) (cause : Cause) (at : Place) (x : Object) (l : Life) (class : MetaObject) (q : MetaProperty) (v : Value) (entry : Entry) → HasValue p new at → Lives old at.object x l → Some class ≡ slice_get p.classes l.class → Some q ≡ slice_get class.properties at.property → entry ≡ At d (entry_kind_of cause x.name q.name (shown old v)) → IsToldWith p new d cause at v entry
  told-ahead p d cause at x l class q v entry has lives is_class is_property is =
      let object : valueless has.object ≡ valueless x = same_Some (valueless has.object) (valueless x) (sym (ap (option_map valueless) has.lives.is) ∙ alike at.object ∙ ap (option_map valueless) lives.is) in
      let name : has.object.name ≡ x.name = ap (λ (z : Object). z.name) object in
      let life : emptied has.life ≡ emptied l = same_Some (emptied has.life) (emptied l) (sym (ap (option_map emptied) has.lives.lives) ∙ ap (λ (z : Object). z.life) object ∙ ap (option_map emptied) lives.lives) in
      let of_class : has.is_property.class ≡ class = same_Some has.is_property.class class (sym has.is_property.is_class.is ∙ ap (λ (m : Life). slice_get p.classes m.class) life ∙ sym is_class) in
      let property : has.property ≡ q = same_Some has.property q (sym has.is_property.is ∙ ap (λ (c : MetaObject). slice_get c.properties at.property) of_class ∙ sym is_property) in
      let line : List ℕ → List ℕ → Shown → Entry = λ object property text. At d (entry_kind_of cause object property text) in
      record {
        has = has;
        is =
            is
            ∙ ap (λ (n : List ℕ). line n q.name (shown old v)) (sym name)
            ∙ ap (λ (z : MetaProperty). line has.object.name z.name (shown old v)) (sym property)
            ∙ ap (line has.object.name has.property.name) (sym (shown-alike v));
      }
