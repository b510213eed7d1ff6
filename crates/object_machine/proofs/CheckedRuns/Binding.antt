-- A binding that may be installed has a value of its target's type: its site is typed, and what it reads is there.
use Rattle.std.{proofs.Common.{◌≡◌, ℕ, zero, suc, List, [], ◌∷◌, Ok, Option, Some, None, slice_get, refl, sym, ap, ◌∙◌, subst}, specs.List.{AllZip}, specs.Option.{option_map, option_and_then}, proofs.lemmas.Option.{same_Some, none-some}}
use Rattle.basic_types.specs.declared.value.Value.{Value}
use Rattle.basic_types.specs.declared.value.Value.TheVariants as variant
use Rattle.expressions.specs.Evaluation.{value as value_in}
use Rattle.meta_model.specs.{declared.object.MetaProperty.{MetaProperty}, declared.object.ValueType.{ValueType}, declared.site.MetaSite.{MetaSite}, declared.site.SourceProperty.{SourceProperty}, Loaded.{Loaded}, Members.{IsProperty}, Sound.{IsSound, IsSoundSite}, Values.{Has}}
use Rattle.object_tree.{specs.declared.object.Object.{Object}, specs.Objects.{class_of}, specs.Seen.{seen}, specs.Typed.{AreTyped}, proofs.TypedObjects.{has-reads}}
use Rattle.binding_graph.specs.{declared.binding.Binding.{Binding}, declared.place.Place.{Place}, Bindings.{source_place}, Places.{property_of}}
use Rattle.prop_bindings.{specs.Calls.{IsOf, CoversBinding, binding_of}, specs.Fits.{IsFit, Agree}, specs.Values.{values_in}, proofs.Alike.{sort_of, BothAlike, values-alike, reads-sort, plain-has}}
use Rattle.type_check.{specs.Laws.{HasValueOf, SourcesAreTyped}, specs.Typed.{kind_in, IsTypedSite, IsTypedProgram}, proofs.Properties.{has_kind}, proofs.Values.{site_has}}
use Rattle.script_lang.specs.declared.event.Event.{Event}
use Rattle.machine_state.specs.State.{State}
use Rattle.machine_rules.{specs.Judgement.{found as finds, holds as so, goes_on}, specs.There.{IsField}, proofs.Fields.{old-there, stored-reads}, proofs.Keeps.{lives-of-class}, proofs.Inherited.{property-below}}
use Rattle.object_machine.{specs.Causes.{BindsNext}, specs.Events.{may_bind}, proofs.Judged.{given-is}}

-- a value as it reads is of the sort that it is of
seen-sort : (objects : List Object) (v : Value) → sort_of (seen objects v) ≡ sort_of v
seen-sort objects (variant.Int n) = refl
seen-sort objects (variant.Bool b) = refl
seen-sort objects (variant.Text t) = refl
seen-sort objects (variant.Ref r) = refl

seen-alike : (objects : List Object) (found : Option Value) → BothAlike (option_map (seen objects) found) found
seen-alike objects None = refl
seen-alike objects (Some v) = ap Some (seen-sort objects v)

-- values of properties as they read
abbrev as_seen : List Object → Place → Option Value
as_seen objects q = option_map (seen objects) (values_in objects q)

-- what is there of something is there
then-some : {X Y : Type 0} (next : X → Option Y) (found : Option X) (y : Y) → option_and_then next found ≡ Some y → (x : X) × (found ≡ Some x) × (next x ≡ Some y)
then-some next None y e = absurd (none-some y e)
then-some next (Some x) y e = (x, refl, e)

-- the object that stands for a formal source
source-at : (p : Loaded) (objects : List Object) (sources formals : List ℕ) (k formal : ℕ) → AllZip (IsOf p objects) sources formals → slice_get formals k ≡ Some formal → (o : ℕ) × (slice_get sources k ≡ Some o) × IsOf p objects o formal
source-at p objects [] [] k formal all is = absurd (none-some formal is)
source-at p objects [] (f ∷ fs) k formal all is = absurd all
source-at p objects (o ∷ os) [] k formal all is = absurd all
source-at p objects (o ∷ os) (f ∷ fs) zero formal all is = (o, refl, subst (λ (g : ℕ). IsOf p objects o g) (same_Some f formal is) all.0)
source-at p objects (o ∷ os) (f ∷ fs) (suc k) formal all is = source-at p objects os fs k formal all.1 is

module _ {p : Loaded} (sound : IsSound p) (objects : List Object) (typed : AreTyped p objects) where
  -- a property of an object of the class has a value that reads as its type
  property-has : (o c q : ℕ) (property : MetaProperty) → IsOf p objects o c → IsProperty p c q property → HasValueOf p (class_of objects) property.kind (as_seen objects (property_of o q))
  property-has o c q property of there =
      let x = lives-of-class objects o of.class of.is in
      let At : ℕ → Type 0 = λ k. IsProperty p k q property in
      let its : IsProperty p (x.1).class q property = subst At (sym x.3) (property-below sound of.below there) in
      let field : IsField p objects o q x.0 property = record { life = x.1; lives = x.2; class = its.class; is_class = its.is_class; is_property = its.is } in
      let had = old-there field typed in
      (seen objects had.0, ap (option_map (seen objects)) had.1, stored-reads field typed had.1)

  -- sources that are covered are typed, as they read
  sources-typed : (sources formals : List ℕ) → AllZip (IsOf p objects) sources formals → SourcesAreTyped p (class_of objects) formals (λ s. option_and_then (as_seen objects) (source_place sources s))
  sources-typed sources formals all s T kind =
      let formal = then-some (λ (c : ℕ). kind_in p c s.property) (slice_get formals s.source) T kind in
      let property = has_kind p formal.0 s.property T formal.2 in
      let source = source-at p objects sources formals s.source formal.0 all formal.1 in
      let has = property-has source.0 formal.0 s.property property.0 source.2 property.1 in (
        has.0,
        ap (λ (found : Option ℕ). option_and_then (as_seen objects) (option_map (λ (o : ℕ). property_of o s.property) found)) source.1 ∙ has.1,
        subst (λ (U : ValueType). Has p (class_of objects) has.0 U) property.2 has.2,
      )

  -- the binding of a typed site fits
  covered-fits : (site : MetaSite) (number target : ℕ) (sources : List ℕ) → IsSoundSite p site → IsTypedSite p site → CoversBinding p objects site target sources → IsFit p objects (binding_of site number target sources)
  covered-fits site number target sources is site_typed covers =
      let read : SourceProperty → Option Value = λ s. option_and_then (as_seen objects) (source_place sources s) in
      let raw : SourceProperty → Option Value = λ s. option_and_then (values_in objects) (source_place sources s) in
      let property = (is.target).property in
      let has = site_has p sound (class_of objects) site read (sources-typed sources site.formals covers.of_sources) site_typed property (is.target).is in
      let alike : BothAlike (value_in read site.formula) (value_in raw site.formula) = values-alike read raw (λ s. alike-at (source_place sources s)) site.formula in
      let given = some-alike (value_in raw site.formula) has.0 (sym (ap (option_map sort_of) has.1) ∙ alike) in
      let x = lives-of-class objects target (covers.of_target).class (covers.of_target).is in
      let At : ℕ → Type 0 = λ k. IsProperty p k site.property property in
      record {
        value = given.0;
        is = given.1;
        typed = record {
          object = x.0;
          life = x.1;
          lives = x.2;
          property = property;
          is_property = subst At (sym x.3) (property-below sound (covers.of_target).below (is.target).is);
          reads = plain-has p objects given.0 property.kind (is.target).plain (given.2 ∙ reads-sort p objects has.0 property.kind (has-reads p objects has.0 property.kind has.2));
        };
        plain = (is.target).plain;
      }
    where
      alike-at : (at : Option Place) → BothAlike (option_and_then (as_seen objects) at) (option_and_then (values_in objects) at)
      alike-at None = refl
      alike-at (Some q) = seen-alike objects (values_in objects q)

      some-alike : (found : Option Value) (v : Value) → Some (sort_of v) ≡ option_map sort_of found → (w : Value) × (found ≡ Some w) × (sort_of w ≡ sort_of v)
      some-alike None v e = absurd (cc e)
      some-alike (Some w) v e = (w, refl, sym (same_Some _ _ e))

-- a binding that may be installed fits
pub may-fit : {p : Loaded} → IsTypedProgram p → IsSound p → (s : State) → Agree p s.objects s.bindings → (site target : List ℕ) (sources : List (List ℕ)) (b : Binding) → may_bind p s site target sources (Ok b) → IsFit p s.objects b
may-fit {p} program sound s agree site target sources b (goes_on n (finds is) (goes_on _ count (goes_on o lives (goes_on xs all (goes_on _ (so covers) (goes_on _ one given)))))) =
    subst (λ (z : Binding). IsFit p s.objects z) (sym (given-is given))
    (covered-fits sound s.objects agree.typed n.it n.number o.number xs (sound.sites n.number n.it is.0) (program.sites n.number n.it is.0) covers)

-- so no event asks for one that doesn't
pub binds-fit : {p : Loaded} → IsTypedProgram p → IsSound p → {s : State} {events : List Event} {b : Binding} → Agree p s.objects s.bindings → BindsNext p s events b → IsFit p s.objects b
binds-fit program sound {s = s} {b = b} agree next = may-fit program sound s agree next.site next.target next.sources b next.may
