-- What holds of the members that each class declares holds of all members of all classes.
use Rattle.std.{proofs.Common.{◌≡◌, ℕ, zero, suc, ◌+◌, ◌<◌, ◌≤◌, Bool, true, false, List, [], ◌∷◌, ◌++◌, map, length, slice_get, Option, Some, None, Any, ◌⊎◌, inl, inr, refl, sym, ap, ◌∙◌, subst, below_more, arith}, specs.Prelude.{codes}, proofs.lemmas.Option.{none-some, same_Some}}
use Rattle.basic_types.specs.{declared.qtype.QType.{QType}, declared.sig.Sig.{Sig}}
use Rattle.syntax_trees.specs.{declared.program.Parameter.{Parameter}, declared.program.Property.{Property}, declared.program.Signal.{Signal}, declared.program.Slot.{Slot}, declared.program.Class.{Class}}
use Rattle.meta_model.specs.{declared.object.ValueType.TheVariants.{Text, Reference}, QObject.{destroyed, destroyed_alone, name_changed}}
use Rattle.class_outlines.{specs.declared.outline.Heading.{Heading}, specs.declared.outline.Outline.{Outline}, specs.DeclaredKinds.{LacksType}, specs.Notifiers.{IsSignalOf, IsNotifiedBy, LacksNotifier, NotifiesBadly, BadNotify}, specs.Conditions.{LacksPropertyType, LacksParameterType, LacksTypes, LacksAnyType}, specs.Outlines.{heading, object_name, types_of, signal_heading, slot_headings, own_methods, qobject, IsOutlineNamed, Outlines}, proofs.Anys.{any_none, of_one, any_front, any_back, any_part}, proofs.Firsts.{first_in_front}, proofs.Once.{get_split_at}, proofs.Outlined.{Declared, outline_of}, proofs.Zips.{any_of, place_of_any}}
use Rattle.class_outlines.specs.declared.outline.Sort.TheVariants as sort
use Rattle.name_indexes.specs.Places.{StandsAt, StandsFirst}
use Rattle.meta_objects.specs.code.OwnTypes.{DeclaresUnknown}

-- ---- fronts
any_later : {X : Type 0} (P : X → Type 0) (x : X) (xs : List X) → Any P xs → Any P (x ∷ xs)
any_later P x xs any =
    let at = place_of_any P xs any in
    any_of P (x ∷ xs) (suc at.0) (record { item = at.1.item; is = at.1.is; has = at.1.has })

-- ---- `QObject`
-- `objectNameChanged(QString)` is at its number alone
pub name_changed_first : StandsFirst (IsSignalOf name_changed) qobject.methods 2
name_changed_first = record { at = record { item = heading name_changed sort.Signal; is = refl; has = (refl, refl) }; first = before }
  where
    front_points : List QType → Bool
    front_points [] = false
    front_points (T ∷ Ts) = T.pointer

    types : Heading → List QType
    types h = h.sig.types

    before : (k : ℕ) → k < 2 → ¬ StandsAt (IsSignalOf name_changed) qobject.methods k
    before zero less at =
        let e : heading destroyed sort.Signal ≡ at.item = same_Some _ _ at.is in
        let f : destroyed.types ≡ name_changed.types = ap types e ∙ ap (λ (s : Sig). s.types) at.has.0 in
        let pointer = ap front_points f in
        absurd (cc)
    before (suc zero) less at =
        let e : heading destroyed_alone sort.Signal ≡ at.item = same_Some _ _ at.is in
        let f : destroyed_alone.types ≡ name_changed.types = ap types e ∙ ap (λ (s : Sig). s.types) at.has.0 in
        absurd (cc)
    before (suc (suc k)) less at = absurd (omega arith)

-- ---- members of one sort, where a class's own follow those of its base
module _ (classes : List Class) (all : List Outline) (are : Outlines classes all) where
  module _ {X : Type 0} (list : Outline → List X) (mine : ℕ → Class → List X)
      (joins : (c : ℕ) (o : Outline) (d : Declared classes all c o) → list o ≡ list d.base ++ mine d.i d.class)
      (Bad : Outline → X → Type 0)
      (root : (q : ℕ) (x : X) → slice_get (list qobject) q ≡ Some x → ¬ Bad qobject x)
      (up : (c : ℕ) (o : Outline) (d : Declared classes all c o) (x : X) → Bad o x → Bad d.base x)
      (own : (i : ℕ) (class : Class) (o : Outline) → slice_get classes i ≡ Some class → slice_get all (suc i) ≡ Some o → (k : ℕ) (x : X) → slice_get (mine i class) k ≡ Some x → ¬ Bad o x) where
    none_below : (n c : ℕ) → c < n → (o : Outline) → slice_get all c ≡ Some o → (q : ℕ) (x : X) → slice_get (list o) q ≡ Some x → ¬ Bad o x
    none_below zero c less o e q x at bad = absurd (omega (arith, less))
    none_below (suc n) c less o e q x at bad =
        elim (outline_of classes all are c o e) [
          | inl z ↦ root q x (subst (λ (u : Outline). slice_get (list u) q ≡ Some x) z.1 at) (subst (λ (u : Outline). Bad u x) z.1 bad)
          | inr d ↦
              elim (get_split_at (list d.base) (mine d.i d.class) q x (subst (λ (xs : List X). slice_get xs q ≡ Some x) (joins c o d) at)) [
                | inl f ↦ none_below n d.base_number (omega (arith, d.smaller, less)) d.base d.is_base q x f (up c o d x bad)
                | inr r ↦ own d.i d.class o d.is (subst (λ (m : ℕ). slice_get all m ≡ Some o) d.number e) r.0 x r.2 bad
              ]
        ]

    pub none_bad : (c : ℕ) (o : Outline) → slice_get all c ≡ Some o → ¬ Any (Bad o) (list o)
    none_bad c o e any =
        let at = place_of_any (Bad o) (list o) any in
        none_below (suc c) c (omega arith) o e at.0 at.1.item at.1.is at.1.has

  -- ---- notify signals
  properties_join : (c : ℕ) (o : Outline) (d : Declared classes all c o) → o.properties ≡ d.base.properties ++ d.class.properties
  properties_join c o d = ap (λ (u : Outline). u.properties) d.shape

  methods_join : (c : ℕ) (o : Outline) (d : Declared classes all c o) → o.methods ≡ d.base.methods ++ own_methods d.i d.class
  methods_join c o d = ap (λ (u : Outline). u.methods) d.shape

  abbrev Unnotified : Outline → Property → Type 0
  Unnotified o p = LacksNotifier o p p.notify

  -- what notifies in a base notifies below it
  lacks_above : (o base : Outline) (own : List Heading) → o.methods ≡ base.methods ++ own → (p : Property) (sig : Option Sig) → LacksNotifier o p sig → LacksNotifier base p sig
  lacks_above o base own e p None lacks = lacks
  lacks_above o base own e p (Some sig) lacks = λ m by. lacks m (record {
    signal = subst (λ (ms : List Heading). StandsFirst (IsSignalOf sig) ms m) (sym e) (first_in_front (IsSignalOf sig) base.methods own m by.signal);
    fits = by.fits;
    own = by.own;
  })

  root_notified : (q : ℕ) (p : Property) → slice_get qobject.properties q ≡ Some p → ¬ Unnotified qobject p
  root_notified zero p e =
      subst (λ (x : Property). ¬ Unnotified qobject x) (same_Some _ _ e)
      (λ lacks. lacks 2 (record { signal = name_changed_first; fits = inr refl; own = inr refl }))
  root_notified (suc q) p e = absurd (none-some p e)

  pub none_notifies_badly : ((i : ℕ) (class : Class) (o : Outline) → slice_get classes i ≡ Some class → slice_get all (suc i) ≡ Some o → ¬ Any (λ (p : Property). LacksNotifier o p p.notify) class.properties) → ¬ BadNotify all
  none_notifies_badly none bad =
      let at = place_of_any NotifiesBadly all bad in
      none_bad (λ (o : Outline). o.properties) (λ i (class : Class). class.properties) properties_join Unnotified root_notified
      (λ c o d p. lacks_above o d.base (own_methods d.i d.class) (methods_join c o d) p p.notify)
      (λ i class o is e k p at_k lacks. none i class o is e (any_of (λ (x : Property). LacksNotifier o x x.notify) class.properties k (record { item = p; is = at_k; has = lacks })))
      at.0 at.1.item at.1.is at.1.has

  -- an own member comes after the inherited ones
  own_any : {X : Type 0} (list : Outline → List X) (mine : List X) (o base : Outline) → list o ≡ list base ++ mine → (P : X → Type 0) → Any P mine → Any P (list o)
  own_any list mine o base e P any = subst (λ xs. Any P xs) (sym e) (any_back P (list base) mine any)

  pub notifies_badly : (i : ℕ) (class : Class) (o : Outline) → slice_get classes i ≡ Some class → slice_get all (suc i) ≡ Some o → Any (λ (p : Property). LacksNotifier o p p.notify) class.properties → BadNotify all
  notifies_badly i class o is e any =
      elim (outline_of classes all are (suc i) o e) [
        | inl z ↦ absurd (let n = z.0 in cc)
        | inr d ↦
            let same_i : d.i ≡ i = omega (arith, d.number) in
            let same : d.class ≡ class = same_Some _ _ (sym d.is ∙ ap (λ n. slice_get classes n) same_i ∙ is) in
            any_of NotifiesBadly all (suc i) (record {
              item = o;
              is = e;
              has = own_any (λ (u : Outline). u.properties) d.class.properties o d.base (properties_join (suc i) o d) (Unnotified o)
                  (subst (λ (c : Class). Any (Unnotified o) c.properties) (sym same) any);
            })
      ]

  -- ---- types
  abbrev Untyped : Outline → Property → Type 0
  Untyped o p = LacksType all p.kind

  abbrev Untypable : Outline → Heading → Type 0
  Untypable o h = Any (LacksType all) h.sig.types

  named_root : IsOutlineNamed all (codes "QObject") 0
  named_root = record { at = record { item = qobject; is = are.root; has = refl }; first = λ k below. absurd (omega (arith, below)) }

  root_typed : (q : ℕ) (p : Property) → slice_get qobject.properties q ≡ Some p → ¬ Untyped qobject p
  root_typed zero p e = subst (λ (x : Property). ¬ LacksType all x.kind) (same_Some _ _ e) (λ lacks. lacks Text refl)
  root_typed (suc q) p e = absurd (none-some p e)

  root_typable : (m : ℕ) (h : Heading) → slice_get qobject.methods m ≡ Some h → ¬ Untypable qobject h
  root_typable zero h e =
      subst (λ (x : Heading). ¬ Any (LacksType all) x.sig.types) (same_Some _ _ e)
      (λ any. of_one (LacksType all) _ any (Reference 0 false) (refl, refl, named_root))
  root_typable (suc zero) h e = subst (λ (x : Heading). ¬ Any (LacksType all) x.sig.types) (same_Some _ _ e) (λ any. any_none (LacksType all) any)
  root_typable (suc (suc zero)) h e =
      subst (λ (x : Heading). ¬ Any (LacksType all) x.sig.types) (same_Some _ _ e) (λ any. of_one (LacksType all) _ any Text refl)
  root_typable (suc (suc (suc zero))) h e = subst (λ (x : Heading). ¬ Any (LacksType all) x.sig.types) (same_Some _ _ e) (λ any. any_none (LacksType all) any)
  root_typable (suc (suc (suc (suc m)))) h e = absurd (none-some h e)

  -- the headings of own methods
  module _ (P : List QType → Type 0) where
    signal_any : (signals : List Signal) → Any (λ (h : Heading). P h.sig.types) (map signal_heading signals) → Any (λ (s : Signal). P (types_of s.parameters)) signals
    signal_any signals any = let at = place_of_any (λ (h : Heading). P h.sig.types) (map signal_heading signals) any in by signals at.0 at.1
      where
        by : (xs : List Signal) (k : ℕ) → StandsAt (λ (h : Heading). P h.sig.types) (map signal_heading xs) k → Any (λ (s : Signal). P (types_of s.parameters)) xs
        by [] k at = absurd (none-some at.item at.is)
        by (x ∷ xs) zero at = any_of (λ (s : Signal). P (types_of s.parameters)) (x ∷ xs) 0 (record { item = x; is = refl; has = subst (λ (h : Heading). P h.sig.types) (sym (same_Some _ _ at.is)) at.has })
        by (x ∷ xs) (suc k) at = any_later (λ (s : Signal). P (types_of s.parameters)) x xs (by xs k (record { item = at.item; is = at.is; has = at.has }))

    any_signal : (signals : List Signal) → Any (λ (s : Signal). P (types_of s.parameters)) signals → Any (λ (h : Heading). P h.sig.types) (map signal_heading signals)
    any_signal signals any = let at = place_of_any (λ (s : Signal). P (types_of s.parameters)) signals any in by signals at.0 at.1
      where
        by : (xs : List Signal) (k : ℕ) → StandsAt (λ (s : Signal). P (types_of s.parameters)) xs k → Any (λ (h : Heading). P h.sig.types) (map signal_heading xs)
        by [] k at = absurd (none-some at.item at.is)
        by (x ∷ xs) zero at = any_of (λ (h : Heading). P h.sig.types) (signal_heading x ∷ map signal_heading xs) 0 (record { item = signal_heading x; is = refl; has = subst (λ (s : Signal). P (types_of s.parameters)) (sym (same_Some _ _ at.is)) at.has })
        by (x ∷ xs) (suc k) at = any_later (λ (h : Heading). P h.sig.types) (signal_heading x) (map signal_heading xs) (by xs k (record { item = at.item; is = at.is; has = at.has }))

    slot_any : (i j : ℕ) (slots : List Slot) → Any (λ (h : Heading). P h.sig.types) (slot_headings i j slots) → Any (λ (s : Slot). P (types_of s.parameters)) slots
    slot_any i j slots any = let at = place_of_any (λ (h : Heading). P h.sig.types) (slot_headings i j slots) any in by j slots at.0 at.1
      where
        by : (j : ℕ) (xs : List Slot) (k : ℕ) → StandsAt (λ (h : Heading). P h.sig.types) (slot_headings i j xs) k → Any (λ (s : Slot). P (types_of s.parameters)) xs
        by j [] k at = absurd (none-some at.item at.is)
        by j (x ∷ xs) zero at = any_of (λ (s : Slot). P (types_of s.parameters)) (x ∷ xs) 0 (record { item = x; is = refl; has = subst (λ (h : Heading). P h.sig.types) (sym (same_Some _ _ at.is)) at.has })
        by j (x ∷ xs) (suc k) at = any_later (λ (s : Slot). P (types_of s.parameters)) x xs (by (suc j) xs k (record { item = at.item; is = at.is; has = at.has }))

    any_slot : (i j : ℕ) (slots : List Slot) → Any (λ (s : Slot). P (types_of s.parameters)) slots → Any (λ (h : Heading). P h.sig.types) (slot_headings i j slots)
    any_slot i j slots any = let at = place_of_any (λ (s : Slot). P (types_of s.parameters)) slots any in by j slots at.0 at.1
      where
        by : (j : ℕ) (xs : List Slot) (k : ℕ) → StandsAt (λ (s : Slot). P (types_of s.parameters)) xs k → Any (λ (h : Heading). P h.sig.types) (slot_headings i j xs)
        by j [] k at = absurd (none-some at.item at.is)
        by j (x ∷ xs) zero at = any_of (λ (h : Heading). P h.sig.types) (slot_headings i j (x ∷ xs)) 0 (record { item = _; is = refl; has = subst (λ (s : Slot). P (types_of s.parameters)) (sym (same_Some _ _ at.is)) at.has })
        by j (x ∷ xs) (suc k) at = any_later (λ (h : Heading). P h.sig.types) _ (slot_headings i (suc j) xs) (by (suc j) xs k (record { item = at.item; is = at.is; has = at.has }))

  pub none_lacks_type : ((i : ℕ) (class : Class) → slice_get classes i ≡ Some class → ¬ DeclaresUnknown all class) → ¬ LacksAnyType all
  none_lacks_type none lacks =
      let at = place_of_any (LacksTypes all) all lacks in
      elim at.1.has [
        | inl any ↦
            none_bad (λ (o : Outline). o.properties) (λ i (class : Class). class.properties) properties_join Untyped root_typed (λ c o d p h. h)
            (λ i class o is e k p at_k h. none i class is (inl (any_of (LacksPropertyType all) class.properties k (record { item = p; is = at_k; has = h }))))
            at.0 at.1.item at.1.is any
        | inr any ↦
            none_bad (λ (o : Outline). o.methods) own_methods methods_join Untypable root_typable (λ c o d p h. h)
            (λ i class o is e k h at_k bad. none i class is (inr (own i class (any_of (LacksParameterType all) (own_methods i class) k (record { item = h; is = at_k; has = bad })))))
            at.0 at.1.item at.1.is any
      ]
    where
      own : (i : ℕ) (class : Class) → Any (LacksParameterType all) (own_methods i class) → Any (λ (s : Signal). Any (LacksType all) (types_of s.parameters)) class.signals ⊎ Any (λ (s : Slot). Any (LacksType all) (types_of s.parameters)) class.slots
      own i class any =
          elim (any_part (LacksParameterType all) (map signal_heading class.signals) (slot_headings i 0 class.slots) any) [
            | inl front ↦ inl (signal_any (Any (LacksType all)) class.signals front)
            | inr back ↦ inr (slot_any (Any (LacksType all)) i 0 class.slots back)
          ]

  pub lacks_type : (i : ℕ) (class : Class) → slice_get classes i ≡ Some class → DeclaresUnknown all class → LacksAnyType all
  lacks_type i class is unknown =
      let has = are.classes i class is in
      elim (outline_of classes all are (suc i) has.outline has.is) [
        | inl z ↦ absurd (let n = z.0 in cc)
        | inr d ↦
            let same_i : d.i ≡ i = omega (arith, d.number) in
            let same : d.class ≡ class = same_Some _ _ (sym d.is ∙ ap (λ n. slice_get classes n) same_i ∙ is) in
            let own = subst (λ (c : Class). DeclaresUnknown all c) (sym same) unknown in
            any_of (LacksTypes all) all (suc i) (record {
              item = has.outline;
              is = has.is;
              has = elim own [
                | inl any ↦ inl (own_any (λ (u : Outline). u.properties) d.class.properties has.outline d.base (properties_join (suc i) has.outline d) (LacksPropertyType all) any)
                | inr rest ↦
                    inr (own_any (λ (u : Outline). u.methods) (own_methods d.i d.class) has.outline d.base (methods_join (suc i) has.outline d) (LacksParameterType all)
                    (elim rest [
                      | inl any ↦ any_front (LacksParameterType all) (map signal_heading d.class.signals) (slot_headings d.i 0 d.class.slots) (any_signal (Any (LacksType all)) d.class.signals any)
                      | inr any ↦ any_back (LacksParameterType all) (map signal_heading d.class.signals) (slot_headings d.i 0 d.class.slots) (any_slot (Any (LacksType all)) d.i 0 d.class.slots any)
                    ]))
              ];
            })
      ]

-- ---- types of parameters
module _ (P : QType → Type 0) where
  pub kind_any : (parameters : List Parameter) → Any (λ (p : Parameter). P p.kind) parameters → Any P (types_of parameters)
  kind_any parameters any = let at = place_of_any (λ (p : Parameter). P p.kind) parameters any in by parameters at.0 at.1
    where
      by : (xs : List Parameter) (k : ℕ) → StandsAt (λ (p : Parameter). P p.kind) xs k → Any P (types_of xs)
      by [] k at = absurd (none-some at.item at.is)
      by (x ∷ xs) zero at = any_of P (x.kind ∷ types_of xs) 0 (record { item = x.kind; is = refl; has = subst (λ (p : Parameter). P p.kind) (sym (same_Some _ _ at.is)) at.has })
      by (x ∷ xs) (suc k) at = any_later P x.kind (types_of xs) (by xs k (record { item = at.item; is = at.is; has = at.has }))

  pub any_kind : (parameters : List Parameter) → Any P (types_of parameters) → Any (λ (p : Parameter). P p.kind) parameters
  any_kind parameters any = let at = place_of_any P (types_of parameters) any in by parameters at.0 at.1
    where
      by : (xs : List Parameter) (k : ℕ) → StandsAt P (types_of xs) k → Any (λ (p : Parameter). P p.kind) xs
      by [] k at = absurd (none-some at.item at.is)
      by (x ∷ xs) zero at = any_of (λ (p : Parameter). P p.kind) (x ∷ xs) 0 (record { item = x; is = refl; has = subst P (sym (same_Some _ _ at.is)) at.has })
      by (x ∷ xs) (suc k) at = any_later (λ (p : Parameter). P p.kind) x xs (by xs k (record { item = at.item; is = at.is; has = at.has }))

-- ---- classes beside their outlines, one after the other
pub next_own : (Q : Class → Outline → Type 0) (classes : List Class) (all : List Outline) (i : ℕ) (class : Class) (o : Outline) → slice_get classes i ≡ Some class → slice_get all (suc i) ≡ Some o → ¬ Q class o
    → ((k : ℕ) → k < i → (x : Class) → slice_get classes k ≡ Some x → (u : Outline) → slice_get all (suc k) ≡ Some u → ¬ Q x u)
    → (k : ℕ) → k < i + 1 → (x : Class) → slice_get classes k ≡ Some x → (u : Outline) → slice_get all (suc k) ≡ Some u → ¬ Q x u
next_own Q classes all i class o at at_o not before =
    below_more _ _ before
    (λ x at_x u at_u q. not (subst (λ (v : Outline). Q class v) (sym (same_Some _ _ (sym at_o ∙ at_u))) (subst (λ (y : Class). Q y u) (sym (same_Some _ _ (sym at ∙ at_x))) q)))
