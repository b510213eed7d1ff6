-- A write of a value of the property's type, and a bind that fits, leave each property with a value of its type: what
-- follows is settled, and of what sort an expression's value is, is a matter of the sorts of what it reads.
use Rattle.std.{proofs.Common.{◌≡◌, inl, inr, ℕ, zero, suc, cond, not, Bool, true, false, List, [], ◌∷◌, map, All, Option, None, Some, slice_get, refl, sym, ap, ◌∙◌, subst}, specs.Option.{option_map, option_and_then}, proofs.lemmas.Bool.{cases_Bool}, proofs.lemmas.List.Elements.{All-push}, proofs.lemmas.Option.{same_Some}, specs.List.{AllByRecursion}}
use Rattle.basic_types.specs.declared.value.Value.{Value}
use Rattle.meta_model.specs.{declared.object.MetaProperty.{MetaProperty}, declared.object.ValueType.{ValueType}, declared.site.SourceProperty.{SourceProperty}, Loaded.{Loaded}, Members.{IsClass}, Sound.{IsPlain}}
use Rattle.object_tree.{specs.declared.object.Object.{Object}, specs.Typed.{AreTyped, ReadsAs, ReadAs}, proofs.Changing.{life-of-lives}, proofs.TypedObjects.{reads-still}}
use Rattle.binding_graph.{specs.declared.binding.Binding.{Binding}, specs.declared.place.Place.{Place}, specs.Bindings.{source_place, read_by, Reads, value_of, binding_at, AreApart, without, without_all, replaced, Settled, Loop}, specs.code.Orders.{Free, Ordered, IsOrder}, specs.Places.{property_of, same_place, is_in, In}, proofs.Acyclic.{order-of}, proofs.Apart.{apart-replaced}, proofs.Naming.{value-agree}, proofs.Places.{decide_in, is_in-true, is_in-false}}
use Rattle.prop_bindings.{specs.declared.plans.assignment.Assignment.{Assignment}, specs.Calls.{AllFit}, specs.Changes.{DifferInValues, lasting, places_in}, specs.Fits.{IsFit, IsInOneLoop, Agree}, specs.Values.{values_in}, proofs.Alike.{sort_of, BothAlike, values-alike, reads-sort, plain-has}, proofs.Fitting.{all-stay}, proofs.Alive.{lives-on}, proofs.Homes.{all-joined}, proofs.Leaving.{agree-fewer}, proofs.There.{bound-has}}
use Rattle.machine_state.specs.{State.{State, Activation}, Telling.{Assigning, writes_of}}
use Rattle.machine_rules.{specs.Settling.{Writes, Installs}, specs.There.{IsField}, proofs.Differing.{differ-stay}, proofs.Fields.{field-property, old-there, stored-is, stored-reads}}

-- ---- sorts along an order of evaluation

-- what the binding reads, as it is now, and all else as it was
abbrev as_read : Binding → (Place → Option Value) → (Place → Option Value) → Place → Option Value
as_read b before now q = cond (is_in (read_by b) q) (now q) (before q)

module _ (b : Binding) (before now : Place → Option Value) where
  is-read : (q : Place) → Reads b q → as_read b before now q ≡ now q
  is-read q reads = elim (cases_Bool (is_in (read_by b) q)) [
    | inl t ↦ ap (λ (x : Bool). cond x (now q) (before q)) t
    | inr f ↦ absurd (is_in-false (read_by b) q f reads)
  ]

  module _ (alike : (q : Place) → Reads b q → BothAlike (before q) (now q)) where
    read-alike : (q : Place) (x : Bool) → is_in (read_by b) q ≡ x → BothAlike (before q) (cond x (now q) (before q))
    read-alike q true is = alike q (is_in-true (read_by b) q is)
    read-alike q false is = refl

    source-alike : (at : Option Place) → BothAlike (option_and_then before at) (option_and_then (as_read b before now) at)
    source-alike None = refl
    source-alike (Some q) = read-alike q (is_in (read_by b) q) refl

    -- what reads values of the same sorts has a value of the same sort
    value-alike : BothAlike (value_of b before) (value_of b now)
    value-alike =
        values-alike (λ (s : SourceProperty). option_and_then before (source_place b.sources s)) (λ (s : SourceProperty). option_and_then (as_read b before now) (source_place b.sources s)) (λ s. source-alike (source_place b.sources s)) b.formula
        ∙ ap (option_map sort_of) (value-agree b (as_read b before now) now is-read)

-- where expressions had values of the sorts of what they bind, and nothing unbound changes its sort, nothing does
module _ (F : Place → Option Binding) (before now : Place → Option Value) (settled : Settled F now)
    (had : (q : Place) (b : Binding) → F q ≡ Some b → BothAlike (before q) (value_of b before))
    (unbound : (q : Place) → F q ≡ None → BothAlike (before q) (now q)) where
  head-alike : (x : Place) (xs : List Place) → Free F x (x ∷ xs) → ((q : Place) → (In q (x ∷ xs) → ⊥) → BothAlike (before q) (now q)) → (found : Option Binding) → F x ≡ found → BothAlike (before x) (now x)
  head-alike x xs free outside None is = unbound x is
  head-alike x xs free outside (Some b) is =
      had x b is ∙ value-alike b before now (λ q reads. outside q (λ i. free b is q i reads)) ∙ sym (ap (option_map sort_of) (settled x b is))

  along-alike : (xs : List Place) → Ordered F xs → ((q : Place) → (In q xs → ⊥) → BothAlike (before q) (now q)) → (q : Place) → BothAlike (before q) (now q)
  along-alike [] ordered outside q = outside q (λ i. i)
  along-alike (x ∷ xs) ordered outside q =
      along-alike xs ordered.1 (λ r out. elim (decide_in r (x ∷ xs)) [
        | inl i ↦ elim i [
          | inl same ↦ subst (λ (y : Place). BothAlike (before y) (now y)) same (head-alike x xs ordered.0 outside (F x) refl)
          | inr j ↦ absurd (out j)
        ]
        | inr away ↦ outside r away
      ]) q

  all-alike : (order : List Place) → IsOrder F order → (q : Place) → BothAlike (before q) (now q)
  all-alike order o = along-alike order o.ordered (λ q out. by_binding q out (F q) refl)
    where
      by_binding : (q : Place) → (In q order → ⊥) → (found : Option Binding) → F q ≡ found → BothAlike (before q) (now q)
      by_binding q out None is = unbound q is
      by_binding q out (Some b) is = absurd (out (o.covers q b is))

-- ---- objects whose values are of their types one by one

-- as many values as there were, each of its type
read-each : (p : Loaded) (old new : List Object) (vs ws : List Value) (Ts : List ValueType) → ReadAs p old vs Ts → ((q : ℕ) → BothAlike (slice_get vs q) (slice_get ws q)) → ((q : ℕ) (w : Value) (T : ValueType) → slice_get ws q ≡ Some w → slice_get Ts q ≡ Some T → ReadsAs p new w T) → ReadAs p new ws Ts
read-each p old new [] [] [] had alike each = tt
read-each p old new [] (w ∷ ws) [] had alike each = absurd (let e : BothAlike None (Some w) = alike 0 in cc e)
read-each p old new [] ws (T ∷ Ts) had alike each = absurd had
read-each p old new (v ∷ vs) ws [] had alike each = absurd had
read-each p old new (v ∷ vs) [] (T ∷ Ts) had alike each = absurd (let e : BothAlike (Some v) None = alike 0 in cc e)
read-each p old new (v ∷ vs) (w ∷ ws) (T ∷ Ts) had alike each = (each 0 w T refl refl, read-each p old new vs ws Ts had.1 (λ q. alike (suc q)) (λ q. each (suc q)))

-- the property that has the type
kind-from : (properties : List MetaProperty) (q : ℕ) (T : ValueType) → slice_get (map (λ (x : MetaProperty). x.kind) properties) q ≡ Some T → (property : MetaProperty) × (slice_get properties q ≡ Some property) × (property.kind ≡ T)
kind-from [] q T e = absurd (cc e)
kind-from (x ∷ properties) zero T e = (x, refl, same_Some _ _ e)
kind-from (x ∷ properties) (suc q) T e = kind-from properties q T e

module _ {p : Loaded} (old new : List Object) (typed : AreTyped p old) (differ : DifferInValues old new) where
  -- a value that reads as a type does so still
  reads-same : (v : Value) (T : ValueType) → ReadsAs p old v T → ReadsAs p new v T
  reads-same = let stay = differ-stay old new differ in reads-still p old new (record { stays = stay.living; rests = stay.dead })

  -- objects are typed if no property changes its sort, and each has a value of its type
  typed-each : ((q : Place) → BothAlike (values_in old q) (values_in new q)) →
      ((q : Place) (x : Object) (property : MetaProperty) (w : Value) → IsField p old q.object q.property x property → values_in new q ≡ Some w → ReadsAs p new w property.kind) → AreTyped p new
  typed-each alike each o x life lives =
      let was = lives-on new old (sym differ) o life (life-of-lives lives) in
      let t = typed o was.object was.life was.lives in
      let Classes : ℕ → Type 0 = λ c. IsClass p c t.class in
      record {
        class = t.class;
        is_class = subst Classes was.same t.is_class;
        typed = read-each p old new (was.life).values life.values (map (λ (k : MetaProperty). k.kind) (t.class).properties) t.typed
            (λ q. sym (ap (option_map sort_of) (stored-is q was.lives)) ∙ alike (property_of o q) ∙ ap (option_map sort_of) (stored-is q lives))
            (λ q w T is kind.
            let k = kind-from (t.class).properties q T kind in
            let field : IsField p old o q was.object k.0 = record { life = was.life; lives = was.lives; class = t.class; is_class = t.is_class; is_property = k.1 } in
            subst (λ (U : ValueType). ReadsAs p new w U) k.2 (each (property_of o q) was.object k.0 w field (stored-is q lives ∙ is)));
      }

-- ---- settled values

-- a property keeps its value, or gets one of its type
data HasOwn (p : Loaded) (old new : List Object) (q : Place) : Type 0 where
  keeps : values_in new q ≡ values_in old q → HasOwn p old new q
  gets : {x : Object} {property : MetaProperty} {v : Value} → IsField p old q.object q.property x property → values_in new q ≡ Some v → ReadsAs p old v property.kind → HasOwn p old new q

-- the property that a binding binds, and that it is of a value type
record Target (p : Loaded) (old : List Object) (q : Place) (b : Binding) : Type 0 where
  object : Object
  property : MetaProperty
  field : IsField p old q.object q.property object property
  plain : IsPlain property.kind
  value : Value
  is : value_of b (values_in old) ≡ Some value
  reads : ReadsAs p old value property.kind

target-of : {p : Loaded} {old : List Object} (q : Place) (b : Binding) → IsFit p old b → b.target ≡ q → Target p old q b
target-of {p} {old} q b fit at = subst (λ (r : Place). Target p old r b) at (record {
  object = (fit.typed).object;
  property = (fit.typed).property;
  field = record { life = (fit.typed).life; lives = (fit.typed).lives; class = ((fit.typed).is_property).class; is_class = ((fit.typed).is_property).is_class; is_property = ((fit.typed).is_property).is };
  plain = fit.plain;
  value = fit.value;
  is = fit.is;
  reads = (fit.typed).reads;
})

module _ {p : Loaded} (old new : List Object) (typed : AreTyped p old) (differ : DifferInValues old new)
    (bs : List Binding) (fit : All (IsFit p old) bs) (joined : All (IsInOneLoop old) bs) (apart : AreApart bs) (acyclic : ¬ Loop (binding_at bs)) (settled : Settled (binding_at bs) (values_in new))
    (unbound : (q : Place) → binding_at bs q ≡ None → HasOwn p old new q) where
  bound-target : (q : Place) (b : Binding) → binding_at bs q ≡ Some b → Target p old q b
  bound-target q b is = let f = bound-has (IsFit p old) bs fit q b is in target-of q b f.0 f.1

  -- a value of the property's type is of the sort that it had
  field-alike : (q : Place) {x : Object} {property : MetaProperty} (v : Value) → IsField p old q.object q.property x property → ReadsAs p old v property.kind → BothAlike (values_in old q) (Some v)
  field-alike q {property = property} v field reads =
      let had = old-there field typed in
      ap (option_map sort_of) had.1 ∙ ap Some (reads-sort p old had.0 property.kind (stored-reads field typed had.1) ∙ sym (reads-sort p old v property.kind reads))

  own-alike : (q : Place) → HasOwn p old new q → BothAlike (values_in old q) (values_in new q)
  own-alike q (keeps is) = ap (option_map sort_of) (sym is)
  own-alike q (gets {v = v} field is reads) = field-alike q v field reads ∙ ap (option_map sort_of) (sym is)

  values-sorts : (q : Place) → BothAlike (values_in old q) (values_in new q)
  values-sorts =
      let order = order-of bs apart acyclic in
      all-alike (binding_at bs) (values_in old) (values_in new) settled
      (λ q b is. let t = bound-target q b is in field-alike q t.value t.field t.reads ∙ ap (option_map sort_of) (sym t.is))
      (λ q none. own-alike q (unbound q none)) order.0 order.1

  own-reads : (q : Place) (x : Object) (property : MetaProperty) (w : Value) → IsField p old q.object q.property x property → values_in new q ≡ Some w → HasOwn p old new q → ReadsAs p new w property.kind
  own-reads q x property w field is (keeps same) = reads-same old new typed differ w property.kind (stored-reads field typed (sym same ∙ is))
  own-reads q x property w field is (gets {property = other} {v = v} there gives reads) =
      let value : v ≡ w = same_Some _ _ (sym gives ∙ is) in
      let one : other ≡ property = field-property there field in
      reads-same old new typed differ w property.kind (subst (λ (u : Value). ReadsAs p old u property.kind) value (subst (λ (k : MetaProperty). ReadsAs p old v k.kind) one reads))

  -- a value of a value type is of it by its sort
  bound-reads : (q : Place) (b : Binding) (x : Object) (property : MetaProperty) (w : Value) → IsField p old q.object q.property x property → values_in new q ≡ Some w → Target p old q b → ReadsAs p new w property.kind
  bound-reads q b x property w field is target =
      let one : (target.property) ≡ property = field-property target.field field in
      let plain : IsPlain property.kind = subst (λ (k : MetaProperty). IsPlain k.kind) one target.plain in
      let had = old-there field typed in
      let sorts : sort_of w ≡ sort_of had.0 = same_Some _ _ (sym (ap (option_map sort_of) is) ∙ sym (values-sorts q) ∙ ap (option_map sort_of) had.1) in
      plain-has p new w property.kind plain (sorts ∙ reads-sort p old had.0 property.kind (stored-reads field typed had.1))

  settled-typed : AreTyped p new
  settled-typed = typed-each old new typed differ values-sorts (λ q x property w field is. by_binding q x property w field is (binding_at bs q) refl)
    where
      by_binding : (q : Place) (x : Object) (property : MetaProperty) (w : Value) → IsField p old q.object q.property x property → values_in new q ≡ Some w → (found : Option Binding) → binding_at bs q ≡ found → ReadsAs p new w property.kind
      by_binding q x property w field is None none = own-reads q x property w field is (unbound q none)
      by_binding q x property w field is (Some b) some = bound-reads q b x property w field is (bound-target q b some)

  -- properties and bindings agree
  settled-agree : Agree p new bs
  settled-agree = record {
    typed = settled-typed;
    fit = all-stay p old new typed settled-typed differ bs fit;
    one_loop = all-joined old new differ bs joined;
    apart = apart;
    acyclic = acyclic;
    settled = settled;
  }

-- ---- a write, and a bind

-- a state in which they agree
pub agree-at : {p : Loaded} {t : State} (u : State) → t ≡ u → Agree p u.objects u.bindings → Agree p t.objects t.bindings
agree-at {p} u e before = let Family : State → Type 0 = λ v. Agree p v.objects v.bindings in subst Family (sym e) before

-- what is left of the bindings agrees with the old values
left-agrees : {p : Loaded} {objects : List Object} (places : List Place) (bs : List Binding) → Agree p objects bs → Agree p objects (without_all places bs)
left-agrees [] bs agree = agree
left-agrees {p} {objects} (at ∷ places) bs agree = left-agrees places (without at bs) (agree-fewer p objects (λ (b : Binding). not (same_place b.target at)) bs agree)

-- a property that is written last with a value of its type gets it
last-own : {p : Loaded} {old new : List Object} (writes : List Assignment) → AllFit p old writes → AllByRecursion (λ (a : Assignment). values_in new a.place ≡ Some a.value) (lasting writes) → (r : Place) → In r (places_in writes) → HasOwn p old new r
last-own [] fit written r here = absurd here
last-own {p} {old} {new} (a ∷ rest) fit written r here = by_last (λ is here. last-own rest fit.1 is r here) (is_in (places_in rest) a.place) refl written here
  where
    by_last : (AllByRecursion (λ (c : Assignment). values_in new c.place ≡ Some c.value) (lasting rest) → In r (places_in rest) → HasOwn p old new r) → (b : Bool) → is_in (places_in rest) a.place ≡ b → AllByRecursion (λ (c : Assignment). values_in new c.place ≡ Some c.value) (cond b (lasting rest) (a ∷ lasting rest)) → In r (a.place ∷ places_in rest) → HasOwn p old new r
    by_last later true again is (inr more) = later is more
    by_last later true again is (inl e) = later is (is_in-true (places_in rest) r (subst (λ (z : Place). is_in (places_in rest) z ≡ true) e again))
    by_last later false last is (inr more) = later is.1 more
    by_last later false last is (inl e) =
        let f = fit.0 in
        let field : IsField p old a.place.object a.place.property f.object f.property = record { life = f.life; lives = f.lives; class = (f.is_property).class; is_class = (f.is_property).is_class; is_property = (f.is_property).is } in
        subst (λ (z : Place). HasOwn p old new z) e (gets field is.0 f.reads)

-- what the writes leave unbound keeps its value, but for the properties that are written
written-own : {p : Loaded} {s t : State} {below : List Activation} {what : Assigning} (w : Writes p s below what t) → AllFit p s.objects (writes_of what) → (r : Place) → binding_at (without_all (places_in (writes_of what)) s.bindings) r ≡ None → HasOwn p s.objects w.objects r
written-own {p} {s} {what = what} w fit r none = elim (decide_in r (places_in (writes_of what))) [
  | inl here ↦ last-own (writes_of what) fit (w.written).written r here
  | inr other ↦ keeps ((w.written).kept r none other)
]

-- values of the properties' types are written
pub writes-agree : {p : Loaded} {s t : State} {below : List Activation} {what : Assigning} → Agree p s.objects s.bindings → (w : Writes p s below what t) → AllFit p s.objects (writes_of what) → Agree p t.objects t.bindings
writes-agree {p} {s} {what = what} agree w fit =
    let places : List Place = places_in (writes_of what) in
    let left : Agree p s.objects (without_all places s.bindings) = left-agrees places s.bindings agree in
    agree-at _ (w.settles).gives
    (settled-agree s.objects w.objects left.typed (w.written).objects (without_all places s.bindings) left.fit left.one_loop left.apart left.acyclic (w.written).settled (written-own w fit))

-- a binding is installed that fits and closes no chain
pub installs-agree : {p : Loaded} {s t : State} {below : List Activation} {b : Binding} → Agree p s.objects s.bindings → IsFit p s.objects b → (¬ Loop (binding_at (replaced s.bindings b))) → IsInOneLoop s.objects b → Installs p s below b t → Agree p t.objects t.bindings
installs-agree {p} {s} {b = b} agree fit acyclic within x =
    let left : Agree p s.objects (without b.target s.bindings) = agree-fewer p s.objects (λ (z : Binding). not (same_place z.target b.target)) s.bindings agree in
    agree-at _ (x.settles).gives
    (settled-agree s.objects x.objects agree.typed (x.installed).objects (replaced s.bindings b) (All-push (IsFit p s.objects) (without b.target s.bindings) b left.fit fit) (All-push (IsInOneLoop s.objects) (without b.target s.bindings) b left.one_loop within) (apart-replaced s.bindings b agree.apart) acyclic (x.installed).settled (λ q none. keeps ((x.installed).kept q none)))
