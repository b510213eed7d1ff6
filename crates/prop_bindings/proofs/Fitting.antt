-- A binding that fits stays so, whatever values of their types properties are given.
use Rattle.std.{proofs.Common.{◌≡◌, ℕ, zero, suc, List, [], ◌∷◌, map, All, Option, None, Some, refl, ap, sym, ◌∙◌, subst}, specs.Prelude.{slice_get}, specs.Option.{option_map, option_and_then}, proofs.lemmas.List.Elements.{All-weaker}, proofs.lemmas.Option.{same_Some}}
use Rattle.basic_types.specs.declared.value.Value.{Value}
use Rattle.basic_types.specs.declared.value.Value.TheVariants as variant
use Rattle.meta_model.specs.{declared.object.MetaObject.{MetaObject}, declared.object.MetaProperty.{MetaProperty}, declared.object.ValueType.{ValueType}, Loaded.{Loaded}, Members.{IsProperty}, declared.site.SourceProperty.{SourceProperty}}
use Rattle.object_tree.{specs.declared.life.Life.{Life}, specs.declared.object.Object.{Object}, specs.Objects.{Lives, life_of}, specs.Seen.{seen, seen_object}, specs.Typed.{AreTyped, IsTyped, ReadAs}, proofs.Changing.{life-of-lives, lives-of-life}}
use Rattle.binding_graph.specs.{declared.place.Place.{Place}, declared.binding.Binding.{Binding}, Bindings.{source_place, value_of}}
use Rattle.prop_bindings.{specs.Values.{values_in}, specs.Changes.{valueless, DifferInValues}, specs.Fits.{IsFit}, proofs.Alive.{LivesOn, emptied, lives-alike, lives-on, seen-number, seen-same}, proofs.Alike.{BothAlike, sort_of, values-alike, lists-alike, reads-sort, plain-has}}

abbrev types_of : MetaObject → List ValueType
types_of class = map (λ (q : MetaProperty). q.kind) class.properties

-- ---- the values stay of their sorts
module _ (p : Loaded) (old new : List Object) (before : AreTyped p old) (after : AreTyped p new) (differ : DifferInValues old new) where
  in-lives : (o q : ℕ) (l m : Life) → life_of old o ≡ Some l → life_of new o ≡ Some m → m.class ≡ l.class → BothAlike (slice_get l.values q) (slice_get m.values q)
  in-lives o q l m was now same =
      let x = lives-of-life old o l was in
      let y = lives-of-life new o m now in
      let t : IsTyped p old l = before o x.0 l x.1 in
      let u : IsTyped p new m = after o y.0 m y.1 in
      let class : t.class ≡ u.class = same_Some t.class u.class (sym t.is_class.is ∙ ap (slice_get p.classes) (sym same) ∙ u.is_class.is) in
      lists-alike p old new l.values m.values (types_of t.class) t.typed (subst (λ (c : MetaObject). ReadAs p new m.values (types_of c)) (sym class) u.typed) q

  by-lives : (o q : ℕ) (a b : Option Life) → life_of old o ≡ a → life_of new o ≡ b → option_map emptied b ≡ option_map emptied a → BothAlike (option_and_then (λ (l : Life). slice_get l.values q) a) (option_and_then (λ (l : Life). slice_get l.values q) b)
  by-lives o q None None was now e = refl
  by-lives o q None (Some m) was now e = absurd (cc e)
  by-lives o q (Some l) None was now e = absurd (cc e)
  by-lives o q (Some l) (Some m) was now e = in-lives o q l m was now (ap (λ (z : Life). z.class) (same_Some (emptied m) (emptied l) e))

  pub envs-alike : (q : Place) → BothAlike (values_in old q) (values_in new q)
  envs-alike q = by-lives q.object q.property (life_of old q.object) (life_of new q.object) refl refl (lives-alike old new differ q.object)

  reads-alike : (o : Option Place) → BothAlike (option_and_then (values_in old) o) (option_and_then (values_in new) o)
  reads-alike None = refl
  reads-alike (Some q) = envs-alike q

  pub value-alike : (b : Binding) → BothAlike (value_of b (values_in old)) (value_of b (values_in new))
  value-alike b = values-alike (λ (s : SourceProperty). option_and_then (values_in old) (source_place b.sources s)) (λ (s : SourceProperty). option_and_then (values_in new) (source_place b.sources s)) (λ s. reads-alike (source_place b.sources s)) b.formula

  fit-by : (b : Binding) (f : IsFit p old b) (found : Option Value) → value_of b (values_in new) ≡ found → BothAlike (Some f.value) found → IsFit p new b
  fit-by b f None is h = absurd (cc h)
  fit-by b f (Some w) is h =
      let on = lives-on old new differ b.target.object f.typed.life (life-of-lives f.typed.lives) in
      let property = f.typed.property in
      record {
        value = w;
        is = is;
        typed = record {
          object = on.object;
          life = on.life;
          lives = on.lives;
          property = property;
          is_property = subst (λ (c : ℕ). IsProperty p c b.target.property property) (sym on.same) f.typed.is_property;
          reads = plain-has p new w property.kind f.plain (sym (same_Some (sort_of f.value) (sort_of w) h) ∙ reads-sort p old f.value property.kind f.typed.reads);
        };
        plain = f.plain;
      }

  -- types alone decide
  pub fit-stays : (b : Binding) → IsFit p old b → IsFit p new b
  fit-stays b f = fit-by b f (value_of b (values_in new)) refl (subst (λ (found : Option Value). BothAlike found (value_of b (values_in new))) f.is (value-alike b))

  pub all-stay : (bs : List Binding) → All (IsFit p old) bs → All (IsFit p new) bs
  all-stay bs h = All-weaker (IsFit p old) (IsFit p new) fit-stays bs h
