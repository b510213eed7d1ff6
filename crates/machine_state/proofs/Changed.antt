-- Properties that change have values, so they can be written down.
use Rattle.std.{proofs.Common.{◌≡◌, ℕ, zero, suc, List, [], ◌∷◌, ◌++◌, map, Option, None, Some, refl, ap, sym, ◌∙◌, subst}, specs.Prelude.{slice_get}, specs.List.{AllByRecursion}, specs.Option.{option_map, option_and_then}, proofs.lemmas.List.Elements.{recursion_from_All}, proofs.lemmas.Option.{same_Some}}
use Rattle.basic_types.specs.declared.value.Value.{Value}
use Rattle.meta_model.specs.{declared.object.MetaObject.{MetaObject}, declared.object.MetaProperty.{MetaProperty}, Loaded.{Loaded}, Members.{IsProperty}}
use Rattle.object_tree.{specs.declared.life.Life.{Life}, specs.declared.object.Object.{Object}, specs.Objects.{Lives, life_of}, specs.Seen.{seen}, specs.Typed.{AreTyped, IsTyped, ReadAs}, proofs.Changing.{lives-of-life}}
use Rattle.binding_graph.specs.{declared.place.Place.{Place}, declared.binding.Binding.{Binding}, Bindings.{without, replaced}}
use Rattle.prop_bindings.specs.{Values.{values_in}, declared.plans.assignment.Assignment.{Assignment}, Changes.{valueless, DifferInValues, ReadsAlike, AreChanged, none_changed, one_changed, one_stayed, IsInstalled, in_order, places_in}, declared.plans.planned.Planned.{Planned}, declared.plans.planned.PlannedBind.{PlannedBind}, Fits.{FitsAt, IsFit, Agree}, Calls.{AllFit, new_binding}, Plans.{after, IsPlannedBind}}
use Rattle.machine_state.{specs.code.Planned.{CanBeTold, HaveValues, WillWrite}, specs.Telling.{HasValue}, proofs.Followers.{written-first}}

module _ (p : Loaded) (objects : List Object) where
  -- where there is a value there is a property, and the other way round
  property-at : (vs : List Value) (qs : List MetaProperty) (k : ℕ) (v : Value) → ReadAs p objects vs (map (λ (q : MetaProperty). q.kind) qs) → slice_get vs k ≡ Some v → (q : MetaProperty) × (slice_get qs k ≡ Some q)
  property-at [] qs k v h is = absurd (cc is)
  property-at (w ∷ vs) [] k v h is = absurd h
  property-at (w ∷ vs) (q ∷ qs) zero v h is = (q, refl)
  property-at (w ∷ vs) (q ∷ qs) (suc k) v h is = property-at vs qs k v h.1 is

  value-at : (vs : List Value) (qs : List MetaProperty) (k : ℕ) (q : MetaProperty) → ReadAs p objects vs (map (λ (r : MetaProperty). r.kind) qs) → slice_get qs k ≡ Some q → (v : Value) × (slice_get vs k ≡ Some v)
  value-at vs [] k q h is = absurd (cc is)
  value-at [] (r ∷ qs) k q h is = absurd h
  value-at (v ∷ vs) (r ∷ qs) zero q h is = (v, refl)
  value-at (v ∷ vs) (r ∷ qs) (suc k) q h is = value-at vs qs k q h.1 is

  module _ (typed : AreTyped p objects) where
    property-has : (at : Place) (x : Object) (l : Life) (q : MetaProperty) → Lives objects at.object x l → IsProperty p l.class at.property q → HasValue p objects at
    property-has at x l q lives is =
        let t : IsTyped p objects l = typed at.object x l lives in
        let class : is.class ≡ t.class = same_Some is.class t.class (sym is.is_class.is ∙ t.is_class.is) in
        let there : slice_get t.class.properties at.property ≡ Some q = ap (λ (c : MetaObject). slice_get c.properties at.property) (sym class) ∙ is.is in
        let found = value-at l.values t.class.properties at.property q t.typed there in
        record { object = x; life = l; lives = lives; property = q; is_property = is; value = found.0; is_value = found.1 }

    pub value-has : (at : Place) (v : Value) → values_in objects at ≡ Some v → HasValue p objects at
    value-has at v is = by_life (life_of objects at.object) refl is
      where
        by_life : (there : Option Life) → life_of objects at.object ≡ there → option_and_then (λ (l : Life). slice_get l.values at.property) there ≡ Some v → HasValue p objects at
        by_life None lives e = absurd (cc e)
        by_life (Some l) lives e =
            let x = lives-of-life objects at.object l lives in
            let t : IsTyped p objects l = typed at.object x.0 l x.1 in
            let found = property-at l.values t.class.properties at.property v t.typed e in
            record {
              object = x.0;
              life = l;
              lives = x.1;
              property = found.0;
              is_property = record { class = t.class; is_class = t.is_class; is = found.1 };
              value = v;
              is_value = e;
            }

    -- a property of which a binding is has a value
    pub bound-has : (bs cs : List Binding) (b : Binding) → cs ≡ replaced bs b → Agree p objects cs → HasValue p objects b.target
    bound-has bs cs b are agree =
        let f : IsFit p objects b = last (without b.target bs) (recursion_from_All (IsFit p objects) (replaced bs b) (subst (λ (ds : List Binding). Agree p objects ds) are agree).fit) in
        property-has b.target f.typed.object f.typed.life f.typed.property f.typed.lives f.typed.is_property
      where
        last : (xs : List Binding) → AllByRecursion (IsFit p objects) (xs ++ b ∷ []) → IsFit p objects b
        last [] h = h.0
        last (x ∷ xs) h = last xs h.1

-- ---- objects that differ in values alone
abbrev pub emptied : Life → Life
emptied l = record l { values = [] }

pub get-map : (f : Object → Object) (xs : List Object) (o : ℕ) → slice_get (map f xs) o ≡ option_map f (slice_get xs o)
get-map f [] o = refl
get-map f (x ∷ xs) zero = refl
get-map f (x ∷ xs) (suc o) = get-map f xs o

module _ (p : Loaded) (old new : List Object) (before : AreTyped p old) (after : AreTyped p new) (differ : DifferInValues old new) where
  -- a property that had a value has one
  still-has : (at : Place) → HasValue p old at → HasValue p new at
  still-has at has =
      by_object (slice_get new at.object) refl
      (sym (get-map valueless new at.object) ∙ ap (λ (xs : List Object). slice_get xs at.object) differ ∙ get-map valueless old at.object ∙ ap (option_map valueless) has.lives.is)
    where
      by_life : (y : Object) → slice_get new at.object ≡ Some y → (there : Option Life) → y.life ≡ there → option_map emptied there ≡ Some (emptied has.life) → HasValue p new at
      by_life y is None lives e = absurd (cc e)
      by_life y is (Some m) lives e =
          let class : m.class ≡ has.life.class = ap (λ (l : Life). l.class) (same_Some (emptied m) (emptied has.life) e) in
          property-has p new after at y m has.property (record { is = is; lives = lives }) (subst (λ (c : ℕ). IsProperty p c at.property has.property) (sym class) has.is_property)

      by_object : (there : Option Object) → slice_get new at.object ≡ there → option_map valueless there ≡ Some (valueless has.object) → HasValue p new at
      by_object None is e = absurd (cc e)
      by_object (Some y) is e = by_life y is y.life refl (ap (λ (z : Object). z.life) (same_Some (valueless y) (valueless has.object) e) ∙ ap (option_map emptied) has.lives.lives)

  -- so has one that no longer reads as it did
  changed-has : (at : Place) → (¬ ReadsAlike old new at) → HasValue p new at
  changed-has at unlike = by_new (values_in new at) refl
    where
      by_old : (was : Option Value) → values_in old at ≡ was → values_in new at ≡ None → HasValue p new at
      by_old None was none = absurd (unlike (ap (option_map (seen new)) none ∙ sym (ap (option_map (seen old)) was)))
      by_old (Some v) was none = still-has at (value-has p old before at v was)

      by_new : (now : Option Value) → values_in new at ≡ now → HasValue p new at
      by_new None none = by_old (values_in old at) refl none
      by_new (Some v) is = value-has p new after at v is

  pub all-changed-have : (ps changed : List Place) → AreChanged old new ps changed → AllByRecursion (HasValue p new) changed
  all-changed-have ps changed none_changed = tt
  all-changed-have ps changed (one_changed {p = at} {ps = qs} {changed = more} unlike rest) = (changed-has at unlike, all-changed-have qs more rest)
  all-changed-have ps changed (one_stayed {ps = qs} alike rest) = all-changed-have qs changed rest

  -- what will have a value has one
  pub still-have : (places : List Place) → HaveValues p old places → HaveValues p new places
  still-have [] h = tt
  still-have (at ∷ rest) h = (still-has at h.0, still-have rest h.1)

-- ---- writes and a bind
-- a value that fits there has a property
pub fits-has : (p : Loaded) (objects : List Object) → AreTyped p objects → (at : Place) (v : Value) → FitsAt p objects at v → HasValue p objects at
fits-has p objects typed at v f = property-has p objects typed at f.object f.life f.property f.lives f.is_property

pub fit-have : (p : Loaded) (objects : List Object) → AreTyped p objects → (writes : List Assignment) → AllFit p objects writes → HaveValues p objects (places_in writes)
fit-have p objects typed [] fit = tt
fit-have p objects typed (a ∷ rest) fit = (fits-has p objects typed a.place a.value fit.0, fit-have p objects typed rest fit.1)

pub installed-has : (p : Loaded) (bs cs : List Binding) (old new : List Object) (b : Binding) (changed : List Place) → Agree p new cs → IsInstalled bs cs old new b changed → HasValue p new b.target
installed-has p bs cs old new b changed agree is = bound-has p new agree.typed bs cs b is.bindings agree

-- ---- plans
can-be-told : (p : Loaded) (objects : List Object) (bs : List Binding) (written : List Place) (plan : Planned) → AreTyped p objects → AreTyped p (after plan objects) → DifferInValues objects (after plan objects) → HaveValues p objects written → AreChanged objects (after plan objects) (in_order written bs) plan.changed → CanBeTold p objects written plan
can-be-told p objects bs written plan before after_it differ have changes =
    let new : List Object = after plan objects in
    let changed : HaveValues p new plan.changed = all-changed-have p objects new before after_it differ (in_order written bs) plan.changed changes in
    record {
      have = have;
      will_have = still-have p objects new before after_it differ written have;
      changed_have = still-have p new objects after_it before (sym differ) plan.changed changed;
      changed_will_have = changed;
      differ = differ;
      first = written-first objects new bs written plan.changed changes;
    }

pub written-ahead : (p : Loaded) (objects : List Object) (bs : List Binding) (writes : List Assignment) (plan : Planned) → Agree p objects bs → AllFit p objects writes → WillWrite p objects bs writes plan → CanBeTold p objects (places_in writes) plan
written-ahead p objects bs writes plan agree fit will =
    can-be-told p objects bs (places_in writes) plan agree.typed will.agree.typed will.writes.objects (fit-have p objects agree.typed writes fit) will.writes.changes

pub bound-ahead : (p : Loaded) (number target : ℕ) (sources : List ℕ) (objects : List Object) (bs : List Binding) (plan : PlannedBind) → Agree p objects bs → IsPlannedBind p number target sources bs objects plan → Agree p (after plan.planned objects) (replaced bs plan.reader) → CanBeTold p objects (plan.reader.target ∷ []) plan.planned
bound-ahead p number target sources objects bs plan agree is will =
    let b : Binding = new_binding is.bound.may in
    let new : List Object = after plan.planned objects in
    let same : plan.reader.target ≡ b.target = ap (λ (x : Binding). x.target) is.binding in
    let differ : DifferInValues objects new = is.bound.installs.objects in
    let there : HasValue p new plan.reader.target = subst (λ (q : Place). HasValue p new q) (sym same) (installed-has p bs (replaced bs plan.reader) objects new b plan.planned.changed will is.bound.installs) in
    can-be-told p objects bs (plan.reader.target ∷ []) plan.planned agree.typed will.typed differ (still-have p new objects will.typed agree.typed (sym differ) (plan.reader.target ∷ []) (there, tt))
    (subst (λ (q : Place). AreChanged objects new (in_order (q ∷ []) bs) plan.planned.changed) (sym same) is.bound.installs.changes)
