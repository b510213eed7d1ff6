-- A loaded program is sound.
use Rattle.std.{proofs.Common.{◌≡◌, ℕ, zero, suc, ◌<◌, ◌+◌, List, [], ◌∷◌, ◌++◌, map, length, get_or, slice_get, Option, Some, None, Any, ◌⊎◌, inl, inr, refl, sym, ap, ◌∙◌, subst, arith, append_assoc}, specs.Prelude.{codes}, specs.List.{AllZip}, specs.Option.{option_and_then}, proofs.lemmas.Option.{slice_get_within, slice_get-get_or, none-some, same_Some}}
use Rattle.basic_types.specs.{declared.qtype.QType.{QType}, declared.sig.Sig.{Sig}}
use Rattle.syntax_trees.specs.{declared.syntax.Literal.{Literal}, declared.program.Property.{Property}, declared.program.Signal.{Signal}, declared.program.SlotWork.{SlotWork}, declared.program.Slot.{Slot}, declared.program.Class.{Class}, declared.program.Wire.{Wire}, declared.program.Owns.{Owns}, declared.program.Site.{Site}, declared.program.Program.{Program}}
use Rattle.syntax_trees.specs.declared.syntax.Literal.TheVariants as literal
use Rattle.syntax_trees.specs.declared.program.SlotWork.TheVariants as does
use Rattle.meta_model.{specs.declared.object.ValueType.{ValueType}, specs.declared.object.MetaMethod.{MetaMethod}, specs.declared.object.MetaProperty.{MetaProperty}, specs.declared.object.MetaObject.{MetaObject}, specs.declared.object.MetaWire.{MetaWire}, specs.declared.object.MetaOwns.{MetaOwns}, specs.declared.site.MetaSite.{MetaSite}, specs.Loaded.{Loaded}, specs.Members.{IsClass, IsProperty, methods_in, method_count, methods_before, method_offset, Declares, base_of, Below, same, under, IsIn}, specs.Kinds.{IsKind}, specs.Sound.{IsSoundWork, IsSoundMethod, IsNotifier, IsSoundProperty, IsUnder, HasDistinctMethods, HasDistinctProperties, IsSoundClass, IsSoundWire, IsSoundOwns, IsSoundSite, AreDistinctSites, IsSound}, specs.Literals.{HoldsNoObject}, specs.Root.{root_methods, root_class, BeginsAsRoot}, proofs.InLists.{place_in}}
use Rattle.meta_model.specs.declared.object.ValueType.TheVariants as type
use Rattle.class_outlines.{specs.declared.outline.Sort.{Sort}, specs.declared.outline.Heading.{Heading}, specs.declared.outline.Outline.{Outline}, specs.DeclaredSites.{UsesReference}, specs.Outlines.{IsOutlineNamed, types_of, signal_heading, slot_headings, own_methods, qobject}, specs.DeclaredKinds.{LacksType}, specs.code.ReadTypes.{IsReadAs}, specs.Clashes.{AreOneCall, HasTwoMembers}, specs.Conditions.{RepeatsName, RepeatsInSlot, RepeatsInMethod, LacksTypes}, specs.Notifiers.{IsSignalOf, LacksNotifier}, specs.Natives.{RepeatsEffectIn, TouchesReference, HasReferenceNative}, proofs.Zips.{zip_left, zip_right, zip_split, zip_also, zip_both, same_zip_by, get_front, get_back}, proofs.Once.{once, none_at}, proofs.Firsts.{first_in_front}, proofs.ReadTypes.{same_read}, proofs.Outlined.{Declared, Reaches, here, up, HasSlot, outline_of, slot_of, outlines_count, root_at, reaches_root, delete_later_in_root, distinct_outlines}}
use Rattle.class_outlines.specs.declared.outline.Sort.TheVariants as sort
use Rattle.name_indexes.specs.Places.{StandsFirst}
use Rattle.name_resolution.{specs.declared.body_resolution.work.ResolvedWork.{ResolvedWork}, specs.code.Bodies.{scope_of, IsWork, IsSlotWork, AreWorks}, specs.code.Wires.{IsWire, IsOwns}, specs.InitialValues.{initial_of}, specs.code.Loading.{work_at, found_work, work_of, IsMethodOf, IsNotify, IsPropertyOf, IsObject, HasUses, IsLoaded}, specs.code.Sites.{IsSite}, proofs.OneSite.{same_zip}, proofs.Unique.{same_method, same_property_by, same_place, same_object}}
use Rattle.name_resolution.specs.declared.body_resolution.work.ResolvedWork.TheVariants as resolved
use Rattle.meta_objects.{specs.Builds.{HasOutlines, IsClean, IsLoadedForm}, specs.LoadedSites.{IsLoadedSite}, specs.LoadedBodies.{site}, specs.LoadedEnds.{Connects}, specs.LoadedProgram.{IsLoadedSignal, IsLoadedWork, IsLoadedSlot, HasNotifier, IsLoadedProperty, IsLoadedClass, HasLoadedClass, IsLoadedWire, IsLoadedOwns, IsLoadedProgram}, proofs.OwnMembers.{name_changed_first}, proofs.Deciding.{carries}, proofs.Soundness.{IsTyped, zip_length, object_at, named, kind_in, connects, types_counted, statements_load}, proofs.Sited.{site_loads, site_sound}, proofs.Natives.{plain_parameters, effects_load, effects_sound}, proofs.SoundBodies.{connects_sound, delete_later_sound, statements_sound}}

no_types : (o : List Outline) (types : List QType) (value_types : List ValueType) → AllZip (IsReadAs o) types value_types → types ≡ [] → value_types ≡ []
no_types o [] [] h e = refl
no_types o [] (k ∷ ks) h e = absurd h
no_types o (T ∷ Ts) ks h e = absurd (cc)

one_kind : (o : List Outline) (types : List QType) (value_types : List ValueType) → AllZip (IsReadAs o) types value_types → (T : QType) (kind : ValueType) → IsReadAs o T kind → types ≡ T ∷ [] → value_types ≡ kind ∷ []
one_kind o [] ks h T kind read e = absurd (cc)
one_kind o (U ∷ Us) [] h T kind read e = absurd h
one_kind o (U ∷ []) (k ∷ []) h T kind read e =
    let same_type : U ≡ T = cc in
    ap (λ x. x ∷ []) (same_read o U k kind h.0 (subst (λ V. IsReadAs o V kind) (sym same_type) read))
one_kind o (U ∷ []) (k ∷ l ∷ ks) h T kind read e = absurd h.1
one_kind o (U ∷ V ∷ Us) (k ∷ ks) h T kind read e = absurd (cc)

-- what a property holds at first
initial_holds_none : (given : Option Literal) (kind : ValueType) → HoldsNoObject (initial_of given kind)
initial_holds_none (Some (literal.Int n)) kind o e = absurd (cc)
initial_holds_none (Some (literal.Bool b)) kind o e = absurd (cc)
initial_holds_none (Some (literal.Text t)) kind o e = absurd (cc)
initial_holds_none (Some literal.Null) kind o e = absurd (cc)
initial_holds_none None type.Int o e = absurd (cc)
initial_holds_none None type.Bool o e = absurd (cc)
initial_holds_none None type.Text o e = absurd (cc)
initial_holds_none None (type.Reference c constant) o e = absurd (cc)

module _ (program : Program) (o : List Outline) (outlined : HasOutlines program o) (clean : IsClean program o) (p : Loaded) (loaded : IsLoaded program o p) where
  -- a class and its outline
  record OutlineOf (c : ℕ) (class : MetaObject) : Type 0 where
    pub outline : Outline
    pub is : slice_get o c ≡ Some outline
    pub by : IsObject o loaded.works outline class

  outline_at : (c : ℕ) (class : MetaObject) → slice_get p.classes c ≡ Some class → OutlineOf c class
  outline_at c class e =
      let x = zip_right (IsObject o loaded.works) o p.classes loaded.objects c class e in
      record { outline = x.0; is = x.1; by = x.2 }

  base_is : (c : ℕ) (u : Outline) → slice_get o c ≡ Some u → base_of p c ≡ u.base
  base_is c u e =
      let x = object_at o loaded.works p loaded.objects c u e in
      ap (λ found. option_and_then (λ (class : MetaObject). class.base) found) x.1 ∙ x.2.based

  below : (c d : ℕ) (class : MetaObject) → IsClass p d class → Reaches o c d → Below p c d
  below c d class is here = same is
  below c d class is (up u e based rest) = under (base_is c u e ∙ based) (below _ d class is rest)

  -- the class of an outline
  class_is : (c : ℕ) (u : Outline) → slice_get o c ≡ Some u → (class : MetaObject) × IsClass p c class
  class_is c u e =
      let x = object_at o loaded.works p loaded.objects c u e in
      (x.0, record { is = x.1 })

  -- as many methods as outlined
  count_is : (c : ℕ) (u : Outline) → slice_get o c ≡ Some u → method_count p c ≡ length u.methods
  count_is c u e =
      let x = object_at o loaded.works p loaded.objects c u e in
      ap methods_in x.1 ∙ sym (zip_length (IsMethodOf o loaded.works) u.methods x.0.methods x.2.methods)

  -- class i declares its slots
  slot_declared : (c i j m : ℕ) (h : Heading) → HasSlot program.classes o c i j m h → Declares p (suc i) m
  slot_declared c i j m h slot =
      let offset : method_offset p (suc i) ≡ length slot.base.methods =
      ap (methods_before p) (base_is (suc i) slot.outline slot.is_outline ∙ slot.based) ∙ count_is slot.base_number slot.base slot.is_base in
      let count = count_is (suc i) slot.outline slot.is_outline in
      record { after = omega (arith, offset, slot.after); within = omega (arith, count, slot.within) }

  -- ---- types
  has_types : (c : ℕ) (u : Outline) → slice_get o c ≡ Some u → ¬ LacksTypes o u
  has_types c u e = none_at (LacksTypes o) o (λ any. clean.types (inl any)) c u e

  kind_sound : (T : QType) (k : ValueType) → (¬ LacksType o T) → IsReadAs o T k → IsKind p T k
  kind_sound T k has (inl h) = kind_in o loaded.works p loaded.objects T k h
  kind_sound T k has (inr h) = absurd (has h.0)

  types_sound : (types : List QType) (value_types : List ValueType) → ((i : ℕ) (T : QType) → slice_get types i ≡ Some T → ¬ LacksType o T) → AllZip (IsReadAs o) types value_types → AllZip (IsKind p) types value_types
  types_sound [] [] has h = tt
  types_sound [] (k ∷ ks) has h = absurd h
  types_sound (T ∷ Ts) [] has h = absurd h
  types_sound (T ∷ Ts) (k ∷ ks) has h = (kind_sound T k (has 0 T refl) h.0, types_sound Ts ks (λ i. has (suc i)) h.1)

  property_kind : (c : ℕ) (class : MetaObject) (u : OutlineOf c class) (q : ℕ) (property : MetaProperty) → slice_get class.properties q ≡ Some property → IsKind p property.declared property.kind
  property_kind c class u q property at =
      let d = zip_right (IsPropertyOf o u.outline) u.outline.properties class.properties u.by.properties q property at in
      let known = none_at (λ (y : Property). LacksType o y.kind) u.outline.properties (λ any. has_types c u.outline u.is (inl any)) q d.0 d.1 in
      subst (λ T. IsKind p T property.kind) (sym d.2.typed) (kind_sound d.0.kind property.kind known d.2.kind)

  properties_typed : (c q : ℕ) (property : MetaProperty) → IsProperty p c q property → IsKind p property.declared property.kind
  properties_typed c q property h = property_kind c h.class (outline_at c h.class h.is_class.is) q property h.is

  -- ---- methods
  is_first : (name : List ℕ) (c : ℕ) (u : Outline) → slice_get o c ≡ Some u → u.name ≡ name → IsOutlineNamed o name c
  is_first name c u e named = record {
    at = record { item = u; is = e; has = named };
    first = λ k less at. let same_place : k ≡ c = distinct_outlines program o outlined.are outlined.distinct k c at.item u at.is e (at.has ∙ sym named) in absurd (omega (arith, same_place));
  }

  -- what slot or native j of class i does, as it is resolved
  work_found : (i : ℕ) (class : Class) → slice_get program.classes i ≡ Some class → (j : ℕ) (slot : Slot) → slice_get class.slots j ≡ Some slot → (w : ResolvedWork) × (work_at loaded.works i j ≡ Some w) × IsSlotWork o class slot w
  work_found i class is_class j slot is_slot =
      let of_class = zip_left (AreWorks o) program.classes loaded.works loaded.uses.are_works i class is_class in
      let work = zip_left (IsSlotWork o class) class.slots of_class.0 of_class.2 j slot is_slot in
      (work.0, ap (λ ws. option_and_then (λ of_class. slice_get of_class j) ws) of_class.1 ∙ work.1, work.2)

  -- .. as it is loaded
  loads_by : (i : ℕ) (class : Class) → IsOutlineNamed o class.name (suc i) → (slot : Slot) (value_types : List ValueType) → AllZip (IsTyped o p) (types_of slot.parameters) value_types
      → (declared : SlotWork) (w : ResolvedWork) → IsWork (scope_of o class slot) declared w → IsLoadedWork (site p (suc i) slot.parameters value_types) declared (found_work (Some w))
  loads_by i class is_me slot value_types typed (does.Body body) (resolved.Body statements) h =
      statements_load o loaded.works p loaded.objects properties_typed class.name slot.parameters (suc i) is_me value_types typed body statements h
  loads_by i class is_me slot value_types typed (does.Native names) (resolved.Native effects) h = effects_load o loaded.works p loaded.objects class.name (suc i) is_me names effects h
  loads_by i class is_me slot value_types typed (does.Body body) (resolved.Native effects) h = absurd h
  loads_by i class is_me slot value_types typed (does.Native names) (resolved.Body statements) h = absurd h

  work_loaded : (i : ℕ) (class : Class) → slice_get program.classes i ≡ Some class → (u : Outline) → slice_get o (suc i) ≡ Some u → u.name ≡ class.name → (j : ℕ) (slot : Slot) → slice_get class.slots j ≡ Some slot → (value_types : List ValueType) → AllZip (IsTyped o p) (types_of slot.parameters) value_types → IsLoadedWork (site p (suc i) slot.parameters value_types) slot.work (found_work (work_at loaded.works i j))
  work_loaded i class is_class u is_outline u_named j slot is_slot value_types typed =
      let found = work_found i class is_class j slot is_slot in
      subst (λ w. IsLoadedWork (site p (suc i) slot.parameters value_types) slot.work (found_work w)) (sym found.1)
      (loads_by i class (is_first class.name (suc i) u is_outline u_named) slot value_types typed slot.work found.0 found.2)

  -- no name appears twice in a list of a native, and it touches no reference
  once_in_slot : (i : ℕ) (class : Class) → slice_get program.classes i ≡ Some class → (j : ℕ) (slot : Slot) → slice_get class.slots j ≡ Some slot → ¬ RepeatsInSlot slot
  once_in_slot i class is_class j slot is_slot =
      none_at RepeatsInSlot class.slots (λ any. none_at RepeatsInMethod program.classes (λ twice. clean.members (inr (inl twice))) i class is_class (inr any)) j slot is_slot

  no_reference : (i : ℕ) (class : Class) → slice_get program.classes i ≡ Some class → (j : ℕ) (slot : Slot) → slice_get class.slots j ≡ Some slot → ¬ TouchesReference o class.name slot.parameters slot.work
  no_reference i class is_class j slot is_slot =
      none_at (λ (x : Slot). TouchesReference o class.name x.parameters x.work) class.slots
      (none_at (HasReferenceNative o) program.classes (λ any. clean.types (inr (inr any))) i class is_class) j slot is_slot

  slot_sound : (c i j m : ℕ) (h : Heading) (value_types : List ValueType) → HasSlot program.classes o c i j m h → AllZip (IsTyped o p) h.sig.types value_types → IsSoundWork p c m value_types (found_work (work_at loaded.works i j))
  slot_sound c i j m h value_types slot typed =
      let found = work_found i slot.class slot.is_class j slot.slot slot.is_slot in
      subst (λ w. IsSoundWork p c m value_types (found_work w)) (sym found.1)
      (sound_by slot.slot.work found.0 found.2 (once_in_slot i slot.class slot.is_class j slot.slot slot.is_slot) (no_reference i slot.class slot.is_class j slot.slot slot.is_slot))
    where
      declaring : (class : MetaObject) × IsClass p (suc i) class
      declaring = class_is (suc i) slot.outline slot.is_outline

      types : AllZip (IsTyped o p) (types_of slot.slot.parameters) value_types
      types = subst (λ (s : Sig). AllZip (IsTyped o p) s.types value_types) slot.signed typed

      is_me : IsOutlineNamed o slot.class.name (suc i)
      is_me = is_first slot.class.name (suc i) slot.outline slot.is_outline slot.named

      sound_by : (declared : SlotWork) (w : ResolvedWork) → IsWork (scope_of o slot.class slot.slot) declared w
          → (¬ (RepeatsName slot.slot.parameters ⊎ RepeatsEffectIn declared)) → (¬ TouchesReference o slot.class.name slot.slot.parameters declared)
          → IsSoundWork p c m value_types (found_work (Some w))
      sound_by (does.Body body) (resolved.Body statements) is once plain = record {
        declaring = suc i;
        below = below c (suc i) declaring.0 declaring.1 slot.reaches;
        declares = slot_declared c i j m h slot;
        sound =
            statements_sound (site p (suc i) slot.slot.parameters value_types) (types_counted o loaded.works p loaded.objects) body statements
            (loads_by i slot.class is_me slot.slot value_types types (does.Body body) (resolved.Body statements) is);
      }
      sound_by (does.Native names) (resolved.Native effects) is once plain = record {
        declaring = suc i;
        below = below c (suc i) declaring.0 declaring.1 slot.reaches;
        declares = slot_declared c i j m h slot;
        plain = plain_parameters o loaded.works p loaded.objects slot.slot.parameters value_types types (λ takes. plain (inl takes));
        sound =
            effects_sound o loaded.works p loaded.objects slot.class.name (suc i) is_me names effects is (λ twice. once (inr twice))
            (λ touches. plain (inr touches));
      }
      sound_by (does.Body body) (resolved.Native effects) is once plain = absurd is
      sound_by (does.Native names) (resolved.Body statements) is once plain = absurd is

  work_sound : (c : ℕ) (u : Outline) → slice_get o c ≡ Some u → (m : ℕ) (h : Heading) → slice_get u.methods m ≡ Some h → (value_types : List ValueType) → AllZip (IsTyped o p) h.sig.types value_types → (s : Sort) → h.sort ≡ s → IsSoundWork p c m value_types (work_of loaded.works s)
  work_sound c u e m h at value_types typed sort.Signal is = tt
  work_sound c u e m h at value_types typed sort.DeleteLater is =
      let root = class_is 0 qobject (root_at program.classes o outlined.are) in
      let offset : method_offset p 0 ≡ 0 = ap (methods_before p) (base_is 0 qobject (root_at program.classes o outlined.are)) in
      let count = count_is 0 qobject (root_at program.classes o outlined.are) in
      let early = delete_later_in_root program.classes o outlined.are (suc c) c (omega arith) u e m h at is in
      record {
        declaring = 0;
        below = below c 0 root.0 root.1 (reaches_root program.classes o outlined.are (suc c) c (omega arith) u e);
        declares = record { after = omega (arith, offset); within = omega (arith, count, early) };
        sound = delete_later_sound p value_types;
      }
  work_sound c u e m h at value_types typed (sort.Slot i j) is = slot_sound c i j m h value_types (slot_of program.classes o outlined.are c u e m h at i j is) typed

  method_sound : (c : ℕ) (class : MetaObject) (u : OutlineOf c class) (m : ℕ) (method : MetaMethod) → slice_get class.methods m ≡ Some method → IsSoundMethod p c m method
  method_sound c class u m method at =
      let h = zip_right (IsMethodOf o loaded.works) u.outline.methods class.methods u.by.methods m method at in
      let kinded = types_sound h.0.sig.types method.types
      (λ i T e. none_at (LacksType o) h.0.sig.types (none_at (λ (x : Heading). Any (LacksType o) x.sig.types) u.outline.methods (λ any. has_types c u.outline u.is (inr any)) m h.0 h.1) i T e)
      h.2.types in
      let typed = zip_both (IsReadAs o) (IsKind p) h.0.sig.types method.types h.2.types kinded in
      record {
        types = subst (λ (s : Sig). AllZip (IsKind p) s.types method.types) (sym h.2.signed) kinded;
        work = subst (λ w. IsSoundWork p c m method.types w) (sym h.2.work) (work_sound c u.outline u.is m h.0 h.1 method.types typed h.0.sort refl);
      }

  -- ---- properties
  notifier : (c : ℕ) (class : MetaObject) (u : OutlineOf c class) (q : ℕ) (d : Property) → slice_get u.outline.properties q ≡ Some d → (property : MetaProperty) → IsPropertyOf o u.outline d property → (s : Option Sig) → d.notify ≡ s → (m : ℕ) → property.notify ≡ Some m → IsNotify u.outline s (Some m) → IsNotifier class property m
  notifier c class u q d at property by None given m is notify = absurd (none-some m (sym notify))
  notifier c class u q d at property by (Some sig) given m is notify =
      let h = notify.at in
      let x = zip_left (IsMethodOf o loaded.works) u.outline.methods class.methods u.by.methods m h.item h.is in
      let typed : AllZip (IsReadAs o) sig.types x.0.types = subst (λ (s : Sig). AllZip (IsReadAs o) s.types x.0.types) h.has.0 x.2.types in
      let fits : (sig.types ≡ []) ⊎ (sig.types ≡ d.kind ∷ []) =
      elim (carries sig.types d.kind) [
        | inl fit ↦ fit
        | inr unfit ↦
            absurd (none_at (λ (y : Property). LacksNotifier u.outline y y.notify) u.outline.properties
            (none_at (λ (v : Outline). Any (λ (y : Property). LacksNotifier v y y.notify) v.properties) o clean.notifiers c u.outline u.is)
            q d at (subst (λ g. LacksNotifier u.outline d g) (sym given) (λ n by_it. unfit by_it.fits)))
      ] in
      record {
        signal = x.0;
        is = x.1;
        signals = x.2.work ∙ ap (λ s. work_of loaded.works s) h.has.1;
        fits = elim fits [
          | inl none ↦ inl (no_types o sig.types x.0.types typed none)
          | inr one ↦ inr (one_kind o sig.types x.0.types typed d.kind property.kind by.kind one)
        ];
      }

  property_sound : (c : ℕ) (class : MetaObject) (u : OutlineOf c class) (q : ℕ) (property : MetaProperty) → slice_get class.properties q ≡ Some property → IsSoundProperty p class property
  property_sound c class u q property at =
      let d = zip_right (IsPropertyOf o u.outline) u.outline.properties class.properties u.by.properties q property at in
      record {
        kind = property_kind c class u q property at;
        initial = subst HoldsNoObject (sym d.2.initial) (initial_holds_none d.0.initial property.kind);
        notifies = λ m is. notifier c class u q d.0 d.1 property d.2 d.0.notify refl m is (subst (λ n. IsNotify u.outline d.0.notify n) is d.2.notify);
      }

  -- ---- bases
  -- a signal of the base is found under the same number in the class
  same_notified : (b : ℕ) (base u : Outline) (own : List Heading) → slice_get o b ≡ Some base → u.methods ≡ base.methods ++ own → (q : ℕ) (d : Property) → slice_get base.properties q ≡ Some d → (s : Option Sig) → d.notify ≡ s → (x y : Option ℕ) → IsNotify u s x → IsNotify base s y → x ≡ y
  same_notified b base u own e methods q d at None given x y h k = h ∙ sym k
  same_notified b base u own e methods q d at (Some sig) given x None h k =
      absurd (none_at (λ (z : Property). LacksNotifier base z z.notify) base.properties
      (none_at (λ (v : Outline). Any (λ (z : Property). LacksNotifier v z z.notify) v.properties) o clean.notifiers b base e)
      q d at (subst (λ g. LacksNotifier base d g) (sym given) (λ n by_it. k n by_it.signal.at)))
  same_notified b base u own e methods q d at (Some sig) given x (Some m) h k =
      let first : StandsFirst (IsSignalOf sig) u.methods m = subst (λ ms. StandsFirst (IsSignalOf sig) ms m) (sym methods) (first_in_front (IsSignalOf sig) base.methods own m k) in
      same_place o (IsSignalOf sig) u.methods x (Some m) h first

  -- ---- the own members of a class
  signals_loaded : (signals : List Signal) (ys : List MetaMethod) → ((k : ℕ) (y : MetaMethod) → slice_get ys k ≡ Some y → AllZip (IsKind p) y.sig.types y.types) → AllZip (IsMethodOf o loaded.works) (map signal_heading signals) ys → AllZip (IsLoadedSignal p) signals ys
  signals_loaded [] [] typed h = tt
  signals_loaded [] (y ∷ ys) typed h = absurd h
  signals_loaded (signal ∷ signals) [] typed h = absurd h
  signals_loaded (signal ∷ signals) (y ∷ ys) typed h = (
    record { signed = h.0.signed; typed = subst (λ (g : Sig). AllZip (IsKind p) g.types y.types) h.0.signed (typed 0 y refl); signals = h.0.work },
    signals_loaded signals ys (λ k. typed (suc k)) h.1,
  )

  slots_loaded : (i from : ℕ) (slots : List Slot) (ys : List MetaMethod)
      → ((k j : ℕ) (slot : Slot) → slice_get slots k ≡ Some slot → from + k ≡ j → (value_types : List ValueType) → AllZip (IsTyped o p) (types_of slot.parameters) value_types → IsLoadedWork (site p (suc i) slot.parameters value_types) slot.work (found_work (work_at loaded.works i j)))
      → ((k : ℕ) (y : MetaMethod) → slice_get ys k ≡ Some y → AllZip (IsKind p) y.sig.types y.types)
      → AllZip (IsMethodOf o loaded.works) (slot_headings i from slots) ys → AllZip (IsLoadedSlot p (suc i)) slots ys
  slots_loaded i from [] [] works typed h = tt
  slots_loaded i from [] (y ∷ ys) works typed h = absurd h
  slots_loaded i from (slot ∷ slots) [] works typed h = absurd h
  slots_loaded i from (slot ∷ slots) (y ∷ ys) works typed h =
      let kinded : AllZip (IsKind p) (types_of slot.parameters) y.types = subst (λ (g : Sig). AllZip (IsKind p) g.types y.types) h.0.signed (typed 0 y refl) in (
        record {
          signed = h.0.signed;
          typed = kinded;
          does =
              subst (λ w. IsLoadedWork (site p (suc i) slot.parameters y.types) slot.work w) (sym h.0.work)
              (works 0 from slot refl (omega arith) y.types (zip_both (IsReadAs o) (IsKind p) (types_of slot.parameters) y.types h.0.types kinded));
        },
        slots_loaded i (suc from) slots ys (λ k j s e at. works (suc k) j s e (omega (arith, at))) (λ k. typed (suc k)) h.1,
      )

  has_notifier : (c : ℕ) (class : MetaObject) (u : OutlineOf c class) (q : ℕ) (d : Property) → slice_get u.outline.properties q ≡ Some d → (s : Option Sig) → d.notify ≡ s → (n : Option ℕ) → IsNotify u.outline s n → HasNotifier class s n
  has_notifier c class u q d at None given n h = h
  has_notifier c class u q d at (Some sig) given None h =
      absurd (none_at (λ (y : Property). LacksNotifier u.outline y y.notify) u.outline.properties
      (none_at (λ (v : Outline). Any (λ (y : Property). LacksNotifier v y y.notify) v.properties) o clean.notifiers c u.outline u.is)
      q d at (subst (λ g. LacksNotifier u.outline d g) (sym given) (λ n by_it. h n by_it.signal.at)))
  has_notifier c class u q d at (Some sig) given (Some m) h =
      let x = zip_left (IsMethodOf o loaded.works) u.outline.methods class.methods u.by.methods m h.at.item h.at.is in
      record { signal = x.0; is = x.1; signed = x.2.signed ∙ h.at.has.0; signals = x.2.work ∙ ap (λ s. work_of loaded.works s) h.at.has.1 }

  properties_loaded : (class : MetaObject) (u : Outline) (ds : List Property) (ys : List MetaProperty)
      → ((k : ℕ) (y : MetaProperty) → slice_get ys k ≡ Some y → IsKind p y.declared y.kind)
      → ((k : ℕ) (d : Property) → slice_get ds k ≡ Some d → (n : Option ℕ) → IsNotify u d.notify n → HasNotifier class d.notify n)
      → AllZip (IsPropertyOf o u) ds ys → AllZip (IsLoadedProperty p class) ds ys
  properties_loaded class u [] [] typed notified h = tt
  properties_loaded class u [] (y ∷ ys) typed notified h = absurd h
  properties_loaded class u (d ∷ ds) [] typed notified h = absurd h
  properties_loaded class u (d ∷ ds) (y ∷ ys) typed notified h = (
    record {
      named = h.0.named;
      declared_as = h.0.typed;
      typed = subst (λ T. IsKind p T y.kind) h.0.typed (typed 0 y refl);
      initial = h.0.initial;
      notified = notified 0 d refl y.notify h.0.notify;
    },
    properties_loaded class u ds ys (λ k. typed (suc k)) (λ k. notified (suc k)) h.1,
  )

  loaded_class : (c : ℕ) (class : MetaObject) (u : OutlineOf c class) (d : Declared program.classes o c u.outline) → IsLoadedClass p c d.class class
  loaded_class c class u d =
      let base = object_at o loaded.works p loaded.objects d.base_number d.base d.is_base in
      let outlined_methods : u.outline.methods ≡ d.base.methods ++ own_methods d.i d.class = ap (λ (v : Outline). v.methods) d.shape in
      let outlined_properties : u.outline.properties ≡ d.base.properties ++ d.class.properties = ap (λ (v : Outline). v.properties) d.shape in
      let methods = zip_split (IsMethodOf o loaded.works) d.base.methods (own_methods d.i d.class) class.methods
      (subst (λ hs. AllZip (IsMethodOf o loaded.works) hs class.methods) outlined_methods u.by.methods) in
      let own = zip_split (IsMethodOf o loaded.works) (map signal_heading d.class.signals) (slot_headings d.i 0 d.class.slots) methods.1 methods.4 in
      let properties = zip_split (IsPropertyOf o u.outline) d.base.properties d.class.properties class.properties
      (subst (λ ps. AllZip (IsPropertyOf o u.outline) ps class.properties) outlined_properties u.by.properties) in
      let same_methods = same_zip (IsMethodOf o loaded.works) d.base.methods methods.0 base.0.methods (same_method o loaded.works) methods.3 base.2.methods in
      let same_properties =
      same_zip_by (IsPropertyOf o u.outline) (IsPropertyOf o d.base) d.base.properties properties.0 base.0.properties
      (λ i y e v w h k. same_property_by o u.outline d.base y v w h k
      (same_notified d.base_number d.base u.outline (own_methods d.i d.class) d.is_base outlined_methods i y e y.notify refl v.notify w.notify h.notify k.notify))
      properties.3 base.2.properties in
      let method_typed : (k : ℕ) (y : MetaMethod) → slice_get methods.1 k ≡ Some y → AllZip (IsKind p) y.sig.types y.types =
      λ k y e. let at = get_back methods.0 methods.1 k y e in (method_sound c class u at.0 y (ap (λ ms. slice_get ms at.0) methods.2 ∙ at.1)).types in
      let property_typed : (k : ℕ) (y : MetaProperty) → slice_get properties.1 k ≡ Some y → IsKind p y.declared y.kind =
      λ k y e. let at = get_back properties.0 properties.1 k y e in (property_sound c class u at.0 y (ap (λ ps. slice_get ps at.0) properties.2 ∙ at.1)).kind in
      let is_outline : slice_get o (suc d.i) ≡ Some u.outline = subst (λ n. slice_get o n ≡ Some u.outline) d.number u.is in
      let outline_named : u.outline.name ≡ d.class.name = ap (λ (v : Outline). v.name) d.shape in
      let works : (k j : ℕ) (slot : Slot) → slice_get d.class.slots k ≡ Some slot → 0 + k ≡ j → (value_types : List ValueType) → AllZip (IsTyped o p) (types_of slot.parameters) value_types → IsLoadedWork (site p (suc d.i) slot.parameters value_types) slot.work (found_work (work_at loaded.works d.i j)) =
      λ k j slot e at.
      let same : k ≡ j = omega (arith, at) in
      work_loaded d.i d.class d.is u.outline is_outline outline_named j slot (subst (λ n. slice_get d.class.slots n ≡ Some slot) same e) in
      let notified : (k : ℕ) (y : Property) → slice_get d.class.properties k ≡ Some y → (n : Option ℕ) → IsNotify u.outline y.notify n → HasNotifier class y.notify n =
      λ k y e n h.
      let at = get_back d.base.properties d.class.properties k y e in
      has_notifier c class u at.0 y (ap (λ ps. slice_get ps at.0) outlined_properties ∙ at.1) y.notify refl n h in
      record {
        named = u.by.named ∙ ap (λ (v : Outline). v.name) d.shape;
        base_number = d.base_number;
        smaller = d.smaller;
        based = u.by.based ∙ ap (λ (v : Outline). v.base) d.shape;
        base = base.0;
        is_base = record { is = base.1 };
        base_named = base.2.named ∙ d.base_named;
        signals = own.0;
        are_signals = signals_loaded d.class.signals own.0 (λ k y e. method_typed k y (ap (λ ms. slice_get ms k) own.2 ∙ get_front own.0 own.1 k y e)) own.3;
        slots = own.1;
        are_slots =
            subst (λ n. AllZip (IsLoadedSlot p n) d.class.slots own.1) (sym d.number)
            (slots_loaded d.i 0 d.class.slots own.1 works
            (λ k y e. let at = get_back own.0 own.1 k y e in method_typed at.0 y (ap (λ ms. slice_get ms at.0) own.2 ∙ at.1))
            own.4);
        methods = methods.2 ∙ ap (λ ms. ms ++ methods.1) same_methods ∙ ap (λ ms. base.0.methods ++ ms) own.2 ∙ sym (append_assoc base.0.methods own.0 own.1);
        own_properties = properties.1;
        are_properties = properties_loaded class u.outline d.class.properties properties.1 property_typed notified properties.4;
        properties = properties.2 ∙ ap (λ ps. ps ++ properties.1) same_properties;
      }

  under_declared : (c : ℕ) (class : MetaObject) (u : OutlineOf c class) (b : ℕ) → class.base ≡ Some b → Declared program.classes o c u.outline → IsUnder p c class b
  under_declared c class u b based d =
      let l = loaded_class c class u d in
      let same_base : l.base_number ≡ b = same_Some _ _ (sym l.based ∙ based) in
      record {
        smaller = subst (λ n. n < c) same_base l.smaller;
        base = l.base;
        is = subst (λ n. IsClass p n l.base) same_base l.is_base;
        own_methods = l.signals ++ l.slots;
        methods = l.methods ∙ append_assoc l.base.methods l.signals l.slots;
        own_properties = l.own_properties;
        properties = l.properties;
      }

  is_under : (c : ℕ) (class : MetaObject) (u : OutlineOf c class) (b : ℕ) → class.base ≡ Some b → IsUnder p c class b
  is_under c class u b based =
      elim (outline_of program.classes o outlined.are c u.outline u.is) [
        | inl q ↦ absurd (none-some b (sym (ap (λ (x : Outline). x.base) q.1) ∙ sym u.by.based ∙ based))
        | inr d ↦ under_declared c class u b based d
      ]

  -- ---- `QObject`
  named_root : IsOutlineNamed o (codes "QObject") 0
  named_root = is_first (codes "QObject") 0 qobject (root_at program.classes o outlined.are) refl

  root_object : IsObject o loaded.works qobject root_class
  root_object = record {
    named = refl;
    based = refl;
    methods = (
      record { signed = refl; types = (inl (refl, refl, named_root), tt); work = refl },
      (
        record { signed = refl; types = tt; work = refl },
        (record { signed = refl; types = (inl refl, tt); work = refl }, (record { signed = refl; types = tt; work = refl }, tt)),
      ),
    );
    properties = (record { named = refl; typed = refl; kind = inl refl; initial = refl; notify = name_changed_first }, tt);
  }

  root_is : slice_get p.classes 0 ≡ Some root_class
  root_is =
      let x = object_at o loaded.works p loaded.objects 0 qobject (root_at program.classes o outlined.are) in
      x.1 ∙ ap Some (same_object o loaded.works qobject x.0 root_class x.2 root_object)

  is_rooted : (c : ℕ) (class : MetaObject) → OutlineOf c class → class.base ≡ None → c ≡ 0
  is_rooted c class u none =
      elim (outline_of program.classes o outlined.are c u.outline u.is) [
        | inl q ↦ q.0
        | inr d ↦ absurd (none-some d.base_number (sym none ∙ u.by.based ∙ ap (λ (x : Outline). x.base) d.shape))
      ]

  begins : (n c : ℕ) → c < n → (class : MetaObject) → slice_get p.classes c ≡ Some class → BeginsAsRoot class
  begins zero c less class is = absurd (omega arith)
  begins (suc n) c less class is = by (begins n) class.base refl
    where
      by : ((b : ℕ) → b < n → (base : MetaObject) → slice_get p.classes b ≡ Some base → BeginsAsRoot base) → (base : Option ℕ) → class.base ≡ base → BeginsAsRoot class
      by before None e =
          let first : c ≡ 0 = is_rooted c class (outline_at c class is) e in
          let one : root_class ≡ class = same_Some _ _ (sym root_is ∙ subst (λ k. slice_get p.classes k ≡ Some class) first is) in
          subst BeginsAsRoot one (record { own_methods = []; methods = refl; own_properties = []; properties = refl })
      by before (Some b) e =
          let above = is_under c class (outline_at c class is) b e in
          let rest = before b (omega (arith, above.smaller)) above.base above.is.is in
          record {
            own_methods = rest.own_methods ++ above.own_methods;
            methods = above.methods ∙ ap (λ ms. ms ++ above.own_methods) rest.methods ∙ append_assoc root_methods rest.own_methods above.own_methods;
            own_properties = rest.own_properties ++ above.own_properties;
            properties = above.properties ∙ ap (λ ps. ps ++ above.own_properties) rest.properties;
          }

  -- ---- members that appear once
  has_one : (c : ℕ) (u : Outline) → slice_get o c ≡ Some u → ¬ HasTwoMembers u
  has_one c u e = none_at HasTwoMembers o (λ any. clean.members (inl any)) c u e

  distinct_methods : (c : ℕ) (class : MetaObject) → OutlineOf c class → HasDistinctMethods class
  distinct_methods c class u i j a b ea eb name count =
      let h = zip_right (IsMethodOf o loaded.works) u.outline.methods class.methods u.by.methods i a ea in
      let k = zip_right (IsMethodOf o loaded.works) u.outline.methods class.methods u.by.methods j b eb in
      let n : h.0.sig.name ≡ k.0.sig.name = sym (ap (λ (s : Sig). s.name) h.2.signed) ∙ name ∙ ap (λ (s : Sig). s.name) k.2.signed in
      let m : length h.0.sig.types ≡ length k.0.sig.types = sym (ap (λ (s : Sig). length s.types) h.2.signed) ∙ count ∙ ap (λ (s : Sig). length s.types) k.2.signed in
      once AreOneCall u.outline.methods (λ t. has_one c u.outline u.is (inl t)) i j h.0 k.0 h.1 k.1 (n, m) (sym n, sym m)

  distinct_properties : (c : ℕ) (class : MetaObject) → OutlineOf c class → HasDistinctProperties class
  distinct_properties c class u i j a b ea eb name =
      let h = zip_right (IsPropertyOf o u.outline) u.outline.properties class.properties u.by.properties i a ea in
      let k = zip_right (IsPropertyOf o u.outline) u.outline.properties class.properties u.by.properties j b eb in
      let n : h.0.name ≡ k.0.name = sym h.2.named ∙ name ∙ k.2.named in
      once (λ (x y : Property). x.name ≡ y.name) u.outline.properties (λ t. has_one c u.outline u.is (inr t)) i j h.0 k.0 h.1 k.1 n (sym n)

  class_sound : (c : ℕ) (class : MetaObject) → IsClass p c class → IsSoundClass p c class
  class_sound c class is =
      let u = outline_at c class is.is in
      record {
        rooted = is_rooted c class u;
        under = λ b based. is_under c class u b based;
        begins = begins (suc c) c (omega arith) class is.is;
        methods = λ m method at. method_sound c class u m method at;
        properties = λ q property at. property_sound c class u q property at;
        distinct_methods = distinct_methods c class u;
        distinct_properties = distinct_properties c class u;
      }

  -- ---- wires and owns
  wire_connects : (wire : Wire) (found : MetaWire) → IsWire o wire found → Connects p found.sender wire.signal found.signal found.receiver wire.method found.method
  wire_connects wire found is =
      let from = is.from.class.at in
      let to = is.to.class.at in
      connects o loaded.works p loaded.objects found.sender from.item from.is wire.signal found.signal is.from.method found.receiver to.item to.is wire.method found.method is.to.method is.called

  wire_sound : (wire : MetaWire) → IsIn wire p.wires → IsSoundWire p wire
  wire_sound wire in_it =
      let at = place_in p.wires wire in_it in
      let w = zip_right (IsWire o) program.wires p.wires loaded.uses.wired at.0 wire at.1 in
      connects_sound (wire_connects w.0 wire w.2)

  class_there : (name : List ℕ) (c : ℕ) → IsOutlineNamed o name c → c < length p.classes
  class_there name c h =
      let x = object_at o loaded.works p loaded.objects c h.at.item h.at.is in slice_get_within p.classes c x.0 x.1

  owns_sound : (owns : MetaOwns) → IsIn owns p.owns → IsSoundOwns p owns
  owns_sound owns in_it =
      let at = place_in p.owns owns in_it in
      let w = zip_right (IsOwns o) program.owns p.owns loaded.uses.owned at.0 owns at.1 in
      record { parent = class_there w.0.parent owns.parent w.2.parent; child = class_there w.0.child owns.child w.2.child }

  sound_site : (i : ℕ) (site : MetaSite) → slice_get p.sites i ≡ Some site → IsSoundSite p site
  sound_site i site e =
      let w = zip_right (IsSite o) program.sites p.sites loaded.uses.sited i site e in
      site_sound o loaded.works p loaded.objects w.0 site w.2 (none_at (UsesReference o) program.sites (λ any. clean.types (inr (inl any))) i w.0 w.1)

  distinct_sites : AreDistinctSites p.sites
  distinct_sites i j a b ea eb name =
      let h = zip_right (IsSite o) program.sites p.sites loaded.uses.sited i a ea in
      let k = zip_right (IsSite o) program.sites p.sites loaded.uses.sited j b eb in
      let n : h.0.name ≡ k.0.name = sym h.2.named ∙ name ∙ k.2.named in
      once (λ (x y : Site). x.name ≡ y.name) program.sites (λ t. clean.members (inr (inr (inl t)))) i j h.0 k.0 h.1 k.1 n (sym n)

  pub sound : IsSound p
  sound = record {
    root = record { is = root_is };
    classes = class_sound;
    distinct_classes = λ i j a b ea eb named.
        let u = outline_at i a ea in
        let v = outline_at j b eb in
        distinct_outlines program o outlined.are outlined.distinct i j u.outline v.outline u.is v.is (sym u.by.named ∙ named ∙ v.by.named);
    wires = wire_sound;
    owns = owns_sound;
    sites = sound_site;
    distinct_sites = distinct_sites;
  }

  -- ---- the program as declared
  class_counted : length p.classes ≡ suc (length program.classes)
  class_counted = sym (zip_length (IsObject o loaded.works) o p.classes loaded.objects) ∙ outlines_count program.classes o outlined.are

  has_loaded : (i : ℕ) (declared : Class) → slice_get program.classes i ≡ Some declared → HasLoadedClass p (suc i) declared
  has_loaded i declared at =
      let less : i < length program.classes = slice_get_within program.classes i declared at in
      let inside : suc i < length p.classes = omega (arith, class_counted, less) in
      let class : MetaObject = get_or p.classes (suc i) root_class in
      let is : slice_get p.classes (suc i) ≡ Some class = slice_get-get_or p.classes (suc i) root_class inside in
      let u = outline_at (suc i) class is in
      elim (outline_of program.classes o outlined.are (suc i) u.outline u.is) [
        | inl q ↦ absurd (omega (arith, q.0))
        | inr d ↦
            let place : d.i ≡ i = omega (arith, d.number) in
            let same_class : d.class ≡ declared = same_Some _ _ (sym d.is ∙ ap (λ k. slice_get program.classes k) place ∙ at) in
            record { class = class; is = record { is = is }; loaded = subst (λ x. IsLoadedClass p (suc i) x class) same_class (loaded_class (suc i) class u d) }
      ]

  wire_loaded : (wire : Wire) (found : MetaWire) → IsWire o wire found → IsLoadedWire p wire found
  wire_loaded wire found is = record {
    sender = named o loaded.works p loaded.objects wire.sender found.sender is.from.class;
    receiver = named o loaded.works p loaded.objects wire.receiver found.receiver is.to.class;
    connects = wire_connects wire found is;
    same_kind = is.same_kind;
  }

  owns_loaded : (owns : Owns) (found : MetaOwns) → IsOwns o owns found → IsLoadedOwns p owns found
  owns_loaded owns found is = record {
    parent = named o loaded.works p loaded.objects owns.parent found.parent is.parent;
    child = named o loaded.works p loaded.objects owns.child found.child is.child;
  }

  pub as_declared : IsLoadedProgram program p
  as_declared = record {
    root = record { is = root_is };
    counted = class_counted;
    classes = has_loaded;
    wires = zip_also (IsWire o) (IsLoadedWire p) program.wires p.wires wire_loaded loaded.uses.wired;
    owns = zip_also (IsOwns o) (IsLoadedOwns p) program.owns p.owns owns_loaded loaded.uses.owned;
    sites = zip_also (IsSite o) (IsLoadedSite p) program.sites p.sites (λ d s is. site_loads o loaded.works p loaded.objects d s is) loaded.uses.sited;
  }

-- what the resolved parts of a program make
pub loaded_form : (program : Program) (o : List Outline) (works : List (List ResolvedWork)) (p : Loaded) → HasOutlines program o → IsClean program o → HasUses program o works p.wires p.owns p.sites → AllZip (IsObject o works) o p.classes → IsLoadedForm program p
loaded_form program o works p outlined clean uses objects =
    let loaded : IsLoaded program o p = record { works = works; uses = uses; objects = objects } in
    record { outlines = o; outlined = outlined; clean = clean; declared = as_declared program o outlined clean p loaded }
