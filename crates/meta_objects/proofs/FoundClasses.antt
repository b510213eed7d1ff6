-- A program that is loaded as declared, as its names are looked up in the outlines of its classes: so one way of loading is
-- left, and what is loaded is sound.
use Rattle.std.{proofs.Common.{◌≡◌, ℕ, zero, suc, ◌+◌, ◌<◌, List, [], ◌∷◌, ◌++◌, map, length, get_or, slice_get, Option, Some, None, inl, inr, refl, sym, ap, ◌∙◌, subst, arith, append_assoc}, specs.Prelude.{codes}, specs.List.{AllZip}, specs.Option.{option_and_then}, proofs.lemmas.Option.{slice_get_within, slice_get-get_or, none-some, same_Some}}
use Rattle.basic_types.specs.{declared.qtype.QType.{QType}, declared.sig.Sig.{Sig}}
use Rattle.syntax_trees.specs.{declared.program.Property.{Property}, declared.program.Signal.{Signal}, declared.program.SlotWork.{SlotWork}, declared.program.Slot.{Slot}, declared.program.Class.{Class}, declared.program.Program.{Program}}
use Rattle.syntax_trees.specs.declared.program.SlotWork.TheVariants as does
use Rattle.meta_model.specs.{declared.object.ValueType.{ValueType}, declared.object.Work.{Work}, declared.object.MetaMethod.{MetaMethod}, declared.object.MetaProperty.{MetaProperty}, declared.object.MetaObject.{MetaObject}, Loaded.{Loaded}, Members.{IsClass, IsClassNamed}, Kinds.{IsKind}, Sound.{IsSound}, Root.{root_class}}
use Rattle.meta_model.specs.declared.object.ValueType.TheVariants as type
use Rattle.meta_model.specs.declared.object.Work.TheVariants as work
use Rattle.class_outlines.{specs.declared.outline.Heading.{Heading}, specs.declared.outline.Outline.{Outline}, specs.Outlines.{IsOutlineNamed, types_of, signal_heading, slot_headings, own_methods, qobject}, specs.code.ReadTypes.{IsReadAs}, specs.Clashes.{HasTwoMembers}, specs.Conditions.{DuplicateMember}, specs.Notifiers.{IsSignalOf}, proofs.Once.{none_at}, proofs.Outlined.{Declared, outline_of, outlines_count, root_at, distinct_outlines}, proofs.Zips.{zip_right, zip_append, zip_also, zip_both}, proofs.Firsts.{first_in_front}}
use Rattle.name_indexes.specs.Places.{StandsFirst}
use Rattle.name_resolution.{specs.declared.body_resolution.work.ResolvedWork.{ResolvedWork}, specs.code.Bodies.{scope_of, IsWork, IsSlotWork, AreWorks, AllWorks}, specs.code.Wires.{IsWire, IsOwns}, specs.code.Loading.{work_at, found_work, IsMethodOf, IsNotify, IsPropertyOf, IsObject, IsLoaded}, specs.code.Sites.{IsSite}, proofs.Unique.{same_loaded}}
use Rattle.name_resolution.specs.declared.body_resolution.work.ResolvedWork.TheVariants as resolved
use Rattle.meta_objects.{specs.LoadedSites.{IsLoadedSite}, specs.LoadedBodies.{Site, site}, specs.LoadedProgram.{IsLoadedSignal, IsLoadedWork, IsLoadedSlot, HasNotifier, IsLoadedProperty, IsLoadedClass, IsLoadedWire, IsLoadedOwns, IsLoadedProgram}, specs.Builds.{HasOutlines, IsLoadedForm, OneAsDeclared, OneLoading}, proofs.Soundness.{map_at}, proofs.OwnMembers.{name_changed_first}, proofs.Whole.{sound}, proofs.FoundBodies.{stands_first, first_signal, signal_sort, statements_found}, proofs.FoundParts.{effects_found, wire_found, owns_found, site_found}}

-- ---- lists that are made place by place
module _ {A B : Type 0} where
  -- a list of what has R at each place
  record Gathered (R : ℕ → A → B → Type 0) (xs : List A) : Type 0 where
    pub list : List B
    pub counted : length list ≡ length xs
    pub at : (k : ℕ) (x : A) → slice_get xs k ≡ Some x → (y : B) × (slice_get list k ≡ Some y) × R k x y

  with_first : (R : ℕ → A → B → Type 0) (x : A) (xs : List A) (y : B) → R 0 x y → Gathered (λ k. R (suc k)) xs → Gathered R (x ∷ xs)
  with_first R x xs y h rest = record { list = y ∷ rest.list; counted = ap suc rest.counted; at = at }
    where
      at : (k : ℕ) (z : A) → slice_get (x ∷ xs) k ≡ Some z → (v : B) × (slice_get (y ∷ rest.list) k ≡ Some v) × R k z v
      at zero z e = (y, refl, subst (λ v. R 0 v y) (same_Some _ _ e) h)
      at (suc k) z e = rest.at k z e

  gather : (R : ℕ → A → B → Type 0) (xs : List A) → ((k : ℕ) (x : A) → slice_get xs k ≡ Some x → (y : B) × R k x y) → Gathered R xs
  gather R [] f = record { list = []; counted = refl; at = λ k x e. absurd (none-some x e) }
  gather R (x ∷ xs) f =
      let first = f 0 x refl in with_first R x xs first.0 first.1 (gather (λ k. R (suc k)) xs (λ k z e. f (suc k) z e))

  zip_of : (S : A → B → Type 0) (xs : List A) (ys : List B) → length ys ≡ length xs → ((k : ℕ) (x : A) → slice_get xs k ≡ Some x → (y : B) × (slice_get ys k ≡ Some y) × S x y) → AllZip S xs ys
  zip_of S [] [] n f = tt
  zip_of S [] (y ∷ ys) n f = absurd (cc)
  zip_of S (x ∷ xs) [] n f = absurd (cc)
  zip_of S (x ∷ xs) (y ∷ ys) n f =
      let first = f 0 x refl in (
        subst (λ v. S x v) (sym (same_Some _ _ first.1)) first.2,
        zip_of S xs ys (omega (arith, n)) (λ k z e. f (suc k) z e),
      )

-- ---- what a slot or native that is loaded was resolved to
abbrev resolve : Work → ResolvedWork
resolve (work.Slot body) = resolved.Body body
resolve (work.Native effects) = resolved.Native effects
resolve work.Signal = resolved.Body []

abbrev done : MetaMethod → ResolvedWork
done method = resolve method.work

done_work : (s : Site) (declared : SlotWork) (w : Work) → IsLoadedWork s declared w → w ≡ found_work (Some (resolve w))
done_work s (does.Body body) (work.Slot statements) h = refl
done_work s (does.Native names) (work.Native effects) h = refl
done_work s (does.Body body) (work.Native effects) h = absurd h
done_work s (does.Body body) work.Signal h = absurd h
done_work s (does.Native names) (work.Slot statements) h = absurd h
done_work s (does.Native names) work.Signal h = absurd h

-- where a notify signal is declared, one is loaded
abbrev IsGiven : Option Sig → Option ℕ → Type 0
IsGiven None n = Unit {0}
IsGiven (Some sig) None = ⊥
IsGiven (Some sig) (Some m) = Unit {0}

abbrev HasGiven : Property → MetaProperty → Type 0
HasGiven d x = IsGiven d.notify x.notify

module _ (program : Program) (o : List Outline) (outlined : HasOutlines program o) (members : ¬ DuplicateMember program o) (p : Loaded) (declared : IsLoadedProgram program p) where
  distinct : (i j : ℕ) (a b : Outline) → slice_get o i ≡ Some a → slice_get o j ≡ Some b → a.name ≡ b.name → i ≡ j
  distinct = distinct_outlines program o outlined.are outlined.distinct

  each_once : (c : ℕ) (u : Outline) → slice_get o c ≡ Some u → ¬ HasTwoMembers u
  each_once c u e = none_at HasTwoMembers o (λ any. members (inl any)) c u e

  first_class : (name : List ℕ) (c : ℕ) (u : Outline) → slice_get o c ≡ Some u → u.name ≡ name → IsOutlineNamed o name c
  first_class name c u e has = stands_first (λ (x : Outline). x.name ≡ name) o c u e has (λ k y f is. distinct k c y u f e (is ∙ sym has))

  -- ---- classes and their outlines have one name and one number
  class_of : (c : ℕ) (u : Outline) → slice_get o c ≡ Some u → (class : MetaObject) × (slice_get p.classes c ≡ Some class) × (class.name ≡ u.name)
  class_of c u e =
      elim (outline_of program.classes o outlined.are c u e) [
        | inl q ↦ (root_class, subst (λ n. slice_get p.classes n ≡ Some root_class) (sym q.0) declared.root.is, sym (ap (λ (x : Outline). x.name) q.1))
        | inr d ↦
            let l = declared.classes d.i d.class d.is in
            (l.class, subst (λ n. slice_get p.classes n ≡ Some l.class) (sym d.number) l.is.is, l.loaded.named ∙ sym (ap (λ (x : Outline). x.name) d.shape))
      ]

  as_many : length p.classes ≡ length o
  as_many = declared.counted ∙ sym (outlines_count program.classes o outlined.are)

  outline_at : (c : ℕ) (class : MetaObject) → slice_get p.classes c ≡ Some class → (u : Outline) × (slice_get o c ≡ Some u) × (class.name ≡ u.name)
  outline_at c class e =
      let less : c < length p.classes = slice_get_within p.classes c class e in
      let at : slice_get o c ≡ Some (get_or o c qobject) = slice_get-get_or o c qobject (omega (arith, less, as_many)) in
      let x = class_of c (get_or o c qobject) at in
      (get_or o c qobject, at, ap (λ (y : MetaObject). y.name) (same_Some _ _ (sym e ∙ x.1)) ∙ x.2)

  outline_named : (name : List ℕ) (c : ℕ) → IsClassNamed p name c → IsOutlineNamed o name c
  outline_named name c h =
      let u = outline_at c h.class h.is.is in first_class name c u.0 u.1 (sym u.2 ∙ h.named)

  is_read : (T : QType) (k : ValueType) → IsKind p T k → IsReadAs o T k
  is_read T type.Int h = inl h
  is_read T type.Bool h = inl h
  is_read T type.Text h = inl h
  is_read T (type.Reference c constant) h = inl (h.0, h.1, outline_named T.name c h.2)

  are_read : (types : List QType) (value_types : List ValueType) → AllZip (IsKind p) types value_types → AllZip (IsReadAs o) types value_types
  are_read types value_types h = zip_also (IsKind p) (IsReadAs o) types value_types is_read h

  -- ---- what slots and natives do
  -- what those of class i were resolved to
  record IsDone (i : ℕ) (class : Class) (works : List ResolvedWork) : Type 0 where
    pub object : MetaObject
    pub is : IsClass p (suc i) object
    pub loaded : IsLoadedClass p (suc i) class object
    pub are : works ≡ map done loaded.slots

  all_done : Gathered IsDone program.classes
  all_done =
      gather IsDone program.classes
      (λ i class e.
      let l = declared.classes i class e in (map done l.loaded.slots, record { object = l.class; is = l.is; loaded = l.loaded; are = refl }))

  abbrev works : List (List ResolvedWork)
  works = all_done.list

  -- ---- members
  signals_found : (signals : List Signal) (ys : List MetaMethod) → AllZip (IsLoadedSignal p) signals ys → AllZip (IsMethodOf o works) (map signal_heading signals) ys
  signals_found [] [] h = tt
  signals_found [] (y ∷ ys) h = absurd h
  signals_found (x ∷ xs) [] h = absurd h
  signals_found (x ∷ xs) (y ∷ ys) h = (
    record { signed = h.0.signed; types = are_read (types_of x.parameters) y.types h.0.typed; work = h.0.signals },
    signals_found xs ys h.1,
  )

  slots_found : (i from : ℕ) (slots : List Slot) (ys : List MetaMethod) → AllZip (IsLoadedSlot p (suc i)) slots ys
      → ((k j : ℕ) (y : MetaMethod) → slice_get ys k ≡ Some y → from + k ≡ j → work_at works i j ≡ Some (done y)) → AllZip (IsMethodOf o works) (slot_headings i from slots) ys
  slots_found i from [] [] h at = tt
  slots_found i from [] (y ∷ ys) h at = absurd h
  slots_found i from (x ∷ xs) [] h at = absurd h
  slots_found i from (x ∷ xs) (y ∷ ys) h at = (
    record {
      signed = h.0.signed;
      types = are_read (types_of x.parameters) y.types h.0.typed;
      work = done_work (site p (suc i) x.parameters y.types) x.work y.work h.0.does ∙ ap found_work (sym (at 0 from y refl (omega arith)));
    },
    slots_found i (suc from) xs ys h.1 (λ k j z e same. at (suc k) j z e (omega (arith, same))),
  )

  -- ---- properties
  notified_on : (base u : Outline) (own : List Heading) → u.methods ≡ base.methods ++ own → (s : Option Sig) (n : Option ℕ) → IsNotify base s n → IsGiven s n → IsNotify u s n
  notified_on base u own methods None n h given = h
  notified_on base u own methods (Some sig) None h given = absurd given
  notified_on base u own methods (Some sig) (Some m) h given =
      subst (λ ms. StandsFirst (IsSignalOf sig) ms m) (sym methods) (first_in_front (IsSignalOf sig) base.methods own m h)

  inherited : (base u : Outline) (own : List Heading) → u.methods ≡ base.methods ++ own → (d : Property) (x : MetaProperty) → IsPropertyOf o base d x × HasGiven d x → IsPropertyOf o u d x
  inherited base u own methods d x h = record {
    named = h.0.named;
    typed = h.0.typed;
    kind = h.0.kind;
    initial = h.0.initial;
    notify = notified_on base u own methods d.notify x.notify h.0.notify h.1;
  }

  notified : (u : Outline) (class : MetaObject) → (¬ HasTwoMembers u) → AllZip (IsMethodOf o works) u.methods class.methods → (s : Option Sig) (n : Option ℕ) → HasNotifier class s n → IsNotify u s n
  notified u class one methods None n h = h
  notified u class one methods (Some sig) None h = absurd h
  notified u class one methods (Some sig) (Some m) h =
      let x = zip_right (IsMethodOf o works) u.methods class.methods methods m h.signal h.is in
      first_signal u one sig m x.0 x.1 (sym x.2.signed ∙ h.signed) (signal_sort works x.0.sort (sym x.2.work ∙ h.signals))

  own_property : (u : Outline) (class : MetaObject) → (¬ HasTwoMembers u) → AllZip (IsMethodOf o works) u.methods class.methods → (d : Property) (x : MetaProperty) → IsLoadedProperty p class d x → IsPropertyOf o u d x
  own_property u class one methods d x h = record {
    named = h.named;
    typed = h.declared_as;
    kind = is_read d.kind x.kind h.typed;
    initial = h.initial;
    notify = notified u class one methods d.notify x.notify h.notified;
  }

  given_by : (class : MetaObject) (s : Option Sig) (n : Option ℕ) → HasNotifier class s n → IsGiven s n
  given_by class None n h = tt
  given_by class (Some sig) None h = absurd h
  given_by class (Some sig) (Some m) h = tt

  -- ---- classes
  record IsMade (u : Outline) (class : MetaObject) : Type 0 where
    pub object : IsObject o works u class
    pub given : AllZip HasGiven u.properties class.properties

  root_made : IsMade qobject root_class
  root_made = record {
    object = record {
      named = refl;
      based = refl;
      methods = (
        record { signed = refl; types = (inl (refl, refl, first_class (codes "QObject") 0 qobject (root_at program.classes o outlined.are) refl), tt); work = refl },
        (
          record { signed = refl; types = tt; work = refl },
          (record { signed = refl; types = (inl refl, tt); work = refl }, (record { signed = refl; types = tt; work = refl }, tt)),
        ),
      );
      properties = (record { named = refl; typed = refl; kind = inl refl; initial = refl; notify = name_changed_first }, tt);
    };
    given = (tt, tt);
  }

  -- the base of a declared class, by its name
  same_base : (c : ℕ) (u : Outline) (d : Declared program.classes o c u) (class : MetaObject) (l : IsLoadedClass p (suc d.i) d.class class) → l.base_number ≡ d.base_number
  same_base c u d class l =
      let v = outline_at l.base_number l.base l.is_base.is in
      distinct l.base_number d.base_number v.0 d.base v.1 d.is_base (sym v.2 ∙ l.base_named ∙ sym d.base_named)

  declared_made : (c : ℕ) (u : Outline) → slice_get o c ≡ Some u → (d : Declared program.classes o c u) (ws : List ResolvedWork) → slice_get works d.i ≡ Some ws → (is : IsDone d.i d.class ws) → IsMade d.base is.loaded.base → IsMade u is.object
  declared_made c u e d ws at is base =
      let l = is.loaded in
      let methods_are : u.methods ≡ d.base.methods ++ own_methods d.i d.class = ap (λ (x : Outline). x.methods) d.shape in
      let properties_are : u.properties ≡ d.base.properties ++ d.class.properties = ap (λ (x : Outline). x.properties) d.shape in
      let works_are : (k j : ℕ) (y : MetaMethod) → slice_get l.slots k ≡ Some y → 0 + k ≡ j → work_at works d.i j ≡ Some (done y) =
      λ k j y f same.
      let place : k ≡ j = omega (arith, same) in
      ap (λ found. option_and_then (λ of_class. slice_get of_class j) found) at
      ∙ ap (λ xs. slice_get xs j) is.are
      ∙ subst (λ n. slice_get (map done l.slots) n ≡ Some (done y)) place (map_at done l.slots k y f) in
      let own = zip_append (IsMethodOf o works) (map signal_heading d.class.signals) (slot_headings d.i 0 d.class.slots) l.signals l.slots (signals_found d.class.signals l.signals l.are_signals) (slots_found d.i 0 d.class.slots l.slots l.are_slots works_are) in
      let methods : AllZip (IsMethodOf o works) u.methods is.object.methods =
      subst (λ hs. AllZip (IsMethodOf o works) hs is.object.methods) (sym methods_are)
      (subst (λ ms. AllZip (IsMethodOf o works) (d.base.methods ++ own_methods d.i d.class) ms) (sym (l.methods ∙ append_assoc l.base.methods l.signals l.slots))
      (zip_append (IsMethodOf o works) d.base.methods (own_methods d.i d.class) l.base.methods (l.signals ++ l.slots) base.object.methods own)) in
      let above : AllZip (IsPropertyOf o u) d.base.properties l.base.properties =
      zip_also (λ (x : Property) (y : MetaProperty). IsPropertyOf o d.base x y × HasGiven x y) (IsPropertyOf o u) d.base.properties l.base.properties
      (inherited d.base u (own_methods d.i d.class) methods_are)
      (zip_both (IsPropertyOf o d.base) HasGiven d.base.properties l.base.properties base.object.properties base.given) in
      let here : AllZip (IsPropertyOf o u) d.class.properties l.own_properties =
      zip_also (IsLoadedProperty p is.object) (IsPropertyOf o u) d.class.properties l.own_properties (own_property u is.object (each_once c u e) methods) l.are_properties in
      let given : AllZip HasGiven d.class.properties l.own_properties =
      zip_also (IsLoadedProperty p is.object) HasGiven d.class.properties l.own_properties (λ x y h. given_by is.object x.notify y.notify h.notified) l.are_properties in
      record {
        object = record {
          named = l.named ∙ sym (ap (λ (x : Outline). x.name) d.shape);
          based = l.based ∙ ap Some (same_base c u d is.object l) ∙ sym (ap (λ (x : Outline). x.base) d.shape);
          methods = methods;
          properties =
              subst (λ ds. AllZip (IsPropertyOf o u) ds is.object.properties) (sym properties_are)
              (subst (λ xs. AllZip (IsPropertyOf o u) (d.base.properties ++ d.class.properties) xs) (sym l.properties)
              (zip_append (IsPropertyOf o u) d.base.properties d.class.properties l.base.properties l.own_properties above here));
        };
        given =
            subst (λ ds. AllZip HasGiven ds is.object.properties) (sym properties_are)
            (subst (λ xs. AllZip HasGiven (d.base.properties ++ d.class.properties) xs) (sym l.properties)
            (zip_append HasGiven d.base.properties d.class.properties l.base.properties l.own_properties base.given given));
      }

  made : (n c : ℕ) → c < n → (u : Outline) → slice_get o c ≡ Some u → (class : MetaObject) → slice_get p.classes c ≡ Some class → IsMade u class
  made zero c less u e class f = absurd (omega (arith, less))
  made (suc n) c less u e class f =
      elim (outline_of program.classes o outlined.are c u e) [
        | inl q ↦
            let same : root_class ≡ class = same_Some _ _ (sym declared.root.is ∙ subst (λ k. slice_get p.classes k ≡ Some class) q.0 f) in
            subst (λ v. IsMade v class) (sym q.1) (subst (λ x. IsMade qobject x) same root_made)
        | inr d ↦
            let at = all_done.at d.i d.class d.is in
            let is : IsDone d.i d.class at.0 = at.2 in
            let same : is.object ≡ class = same_Some _ _ (sym is.is.is ∙ subst (λ k. slice_get p.classes k ≡ Some class) d.number f) in
            let base_is : slice_get p.classes d.base_number ≡ Some is.loaded.base =
            subst (λ k. slice_get p.classes k ≡ Some is.loaded.base) (same_base c u d is.object is.loaded) is.loaded.is_base.is in
            let base = made n d.base_number (omega (arith, less, d.smaller)) d.base d.is_base is.loaded.base base_is in
            subst (λ x. IsMade u x) same (declared_made c u e d at.0 at.1 is base)
      ]

  objects : AllZip (IsObject o works) o p.classes
  objects =
      zip_of (IsObject o works) o p.classes as_many
      (λ c u e. let x = class_of c u e in (x.0, x.1, (made (suc c) c (omega arith) u e x.0 x.1).object))

  -- ---- bodies and natives
  work_found : (class : Class) (c : ℕ) → IsOutlineNamed o class.name c → (slot : Slot) (value_types : List ValueType) → AllZip (IsReadAs o) (types_of slot.parameters) value_types
      → (given : SlotWork) (w : Work) → IsLoadedWork (site p c slot.parameters value_types) given w → IsWork (scope_of o class slot) given (resolve w)
  work_found class c is_me slot value_types typed (does.Body body) (work.Slot statements) h =
      statements_found o works p objects distinct each_once class.name slot.parameters c is_me value_types typed body statements h
  work_found class c is_me slot value_types typed (does.Native names) (work.Native effects) h = effects_found o works p objects distinct each_once class.name c is_me names effects h
  work_found class c is_me slot value_types typed (does.Body body) (work.Native effects) h = absurd h
  work_found class c is_me slot value_types typed (does.Body body) work.Signal h = absurd h
  work_found class c is_me slot value_types typed (does.Native names) (work.Slot statements) h = absurd h
  work_found class c is_me slot value_types typed (does.Native names) work.Signal h = absurd h

  works_found : (class : Class) (c : ℕ) → IsOutlineNamed o class.name c → (slots : List Slot) (ys : List MetaMethod) → AllZip (IsLoadedSlot p c) slots ys → AllZip (IsSlotWork o class) slots (map done ys)
  works_found class c is_me [] [] h = tt
  works_found class c is_me [] (y ∷ ys) h = absurd h
  works_found class c is_me (x ∷ xs) [] h = absurd h
  works_found class c is_me (x ∷ xs) (y ∷ ys) h = (
    work_found class c is_me x y.types (are_read (types_of x.parameters) y.types h.0.typed) x.work y.work h.0.does,
    works_found class c is_me xs ys h.1,
  )

  class_works : (i : ℕ) (class : Class) (ws : List ResolvedWork) → IsDone i class ws → AreWorks o class ws
  class_works i class ws is =
      let u = outline_at (suc i) is.object is.is.is in
      let is_me : IsOutlineNamed o class.name (suc i) = first_class class.name (suc i) u.0 u.1 (sym u.2 ∙ is.loaded.named) in
      subst (λ xs. AllZip (IsSlotWork o class) class.slots xs) (sym is.are) (works_found class (suc i) is_me class.slots is.loaded.slots is.loaded.are_slots)

  all_works : AllWorks o program.classes works
  all_works =
      zip_of (AreWorks o) program.classes works all_done.counted
      (λ i class e. let at = all_done.at i class e in (at.0, at.1, class_works i class at.0 at.2))

  pub looked_up : IsLoaded program o p
  looked_up = record {
    works = works;
    uses = record {
      are_works = all_works;
      wired = zip_also (IsLoadedWire p) (IsWire o) program.wires p.wires (wire_found o works p objects distinct each_once) declared.wires;
      owned = zip_also (IsLoadedOwns p) (IsOwns o) program.owns p.owns (owns_found o works p objects distinct each_once) declared.owns;
      sited = zip_also (IsLoadedSite p) (IsSite o) program.sites p.sites (site_found o works p objects distinct each_once) declared.sites;
    };
    objects = objects;
  }

pub one_as_declared : OneAsDeclared
one_as_declared program o outlined members p q h k =
    same_loaded o program p q (looked_up program o outlined members p h) (looked_up program o outlined members q k)

pub one_loading : OneLoading
one_loading program a b h k = one_as_declared program h.outlines h.outlined h.clean.members a b h.declared k.declared

-- what is loaded is sound
pub form_sound : (program : Program) (p : Loaded) → IsLoadedForm program p → IsSound p
form_sound program p h =
    sound program h.outlines h.outlined h.clean p (looked_up program h.outlines h.outlined h.clean.members p h.declared)
