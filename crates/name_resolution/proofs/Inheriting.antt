-- What is resolved of a base is what the classes below it are to have.
use Rattle.std.{proofs.Common.{◌≡◌, ℕ, List, ◌++◌, take, slice_get, Option, None, Some, IfSome, Any, inl, inr, refl, sym, ap, ◌∙◌, subst}, specs.List.{AllZip}, specs.Option.{option_and_then}, proofs.lemmas.Option.{none-some, same_Some}}
use Rattle.basic_types.specs.declared.sig.Sig.{Sig}
use Rattle.syntax_trees.specs.{declared.program.Property.{Property}, declared.program.Class.{Class}}
use Rattle.meta_model.specs.{declared.object.MetaMethod.{MetaMethod}, declared.object.MetaProperty.{MetaProperty}, declared.object.MetaObject.{MetaObject}}
use Rattle.class_outlines.{specs.declared.outline.Heading.{Heading}, specs.declared.outline.Outline.{Outline}, specs.Outlines.{own_methods}, specs.Notifiers.{IsSignalOf, LacksNotifier, NotifiesBadly, BadNotify}, proofs.Firsts.{first_in_front}, proofs.Prefixes.{get_take}, proofs.Once.{none_at}, proofs.Outlined.{Declared, outline_of}, proofs.Zips.{zip_right, get_front}}
use Rattle.name_indexes.specs.Places.{StandsFirst}
use Rattle.name_resolution.specs.{declared.body_resolution.work.ResolvedWork.{ResolvedWork}, code.Inherited.{AreOutlined, IsNextObject, InheritMethods, InheritProperties, inherited_method, inherited_property}, code.Loading.{IsMethodOf, IsNotify, IsPropertyOf, IsObject}}

-- what is found, if anything is, has P
if_found : {X : Type 0} (P : X → Type 0) (found : Option X) → ((x : X) → found ≡ Some x → P x) → IfSome found P
if_found P None has = tt
if_found P (Some x) has = has x refl

module _ (outlines : List Outline) (works : List (List ResolvedWork)) (before : List MetaObject) (outline : Outline) (next : IsNextObject outlines works before outline) where
  -- the object is that of the base, with whose members the class's begin
  record IsBaseOf (object : MetaObject) : Type 0 where
    pub number : ℕ
    pub base : Outline
    pub is : slice_get outlines number ≡ Some base
    pub resolved : IsObject outlines works base object
    pub more_methods : List Heading
    pub methods : outline.methods ≡ base.methods ++ more_methods
    pub more_properties : List Property
    pub properties : outline.properties ≡ base.properties ++ more_properties

  declared_base : (b : ℕ) (object : MetaObject) → outline.base ≡ Some b → slice_get before b ≡ Some object → Declared next.outlined.0 outlines next.number outline → IsBaseOf object
  declared_base b object based at d =
      let found = zip_right (IsObject outlines works) (take next.number outlines) before next.resolved b object at in
      let above = get_take next.number outlines b found.0 found.1 in
      let number : d.base_number ≡ b = same_Some _ _ (sym (ap (λ (o : Outline). o.base) d.shape) ∙ based) in
      let same : d.base ≡ found.0 = same_Some _ _ (sym d.is_base ∙ ap (λ n. slice_get outlines n) number ∙ above.0) in
      record {
        number = b;
        base = found.0;
        is = above.0;
        resolved = found.2;
        more_methods = own_methods d.i d.class;
        methods = subst (λ (base : Outline). outline.methods ≡ base.methods ++ own_methods d.i d.class) same (ap (λ (o : Outline). o.methods) d.shape);
        more_properties = d.class.properties;
        properties = subst (λ (base : Outline). outline.properties ≡ base.properties ++ d.class.properties) same (ap (λ (o : Outline). o.properties) d.shape);
      }

  is_base : (b : ℕ) (object : MetaObject) → outline.base ≡ Some b → slice_get before b ≡ Some object → IsBaseOf object
  is_base b object based at =
      elim (outline_of next.outlined.0 outlines next.outlined.1 next.number outline next.is) [
        | inl root ↦ absurd (none-some b (sym (ap (λ (o : Outline). o.base) root.1) ∙ based))
        | inr d ↦ declared_base b object based at d
      ]

  -- what stands at a place of the base's list
  at_base : {M : Type 0} (list : MetaObject → List M) (place : ℕ) (m : M) → option_and_then (λ (object : MetaObject). slice_get (list object) place) (option_and_then (slice_get before) outline.base) ≡ Some m
      → (object : MetaObject) × IsBaseOf object × (slice_get (list object) place ≡ Some m)
  at_base {M} list place m found = by outline.base refl found
    where
      of_base : (b : ℕ) → outline.base ≡ Some b → (there : Option MetaObject) → slice_get before b ≡ there → option_and_then (λ (object : MetaObject). slice_get (list object) place) there ≡ Some m
          → (object : MetaObject) × IsBaseOf object × (slice_get (list object) place ≡ Some m)
      of_base b based None at found = absurd (none-some m found)
      of_base b based (Some object) at found = (object, is_base b object based at, found)

      by : (base : Option ℕ) → outline.base ≡ base → option_and_then (λ (object : MetaObject). slice_get (list object) place) (option_and_then (slice_get before) base) ≡ Some m
          → (object : MetaObject) × IsBaseOf object × (slice_get (list object) place ≡ Some m)
      by None based found = absurd (none-some m found)
      by (Some b) based found = of_base b based (slice_get before b) refl found

  -- ---- methods
  method_of_base : (place : ℕ) (heading : Heading) → slice_get outline.methods place ≡ Some heading → (method : MetaMethod) → inherited_method before outline.base place ≡ Some method → IsMethodOf outlines works heading method
  method_of_base place heading at method found =
      let over = at_base (λ (object : MetaObject). object.methods) place method found in
      let by = zip_right (IsMethodOf outlines works) over.1.base.methods over.0.methods over.1.resolved.methods place method over.2 in
      let front = get_front over.1.base.methods over.1.more_methods place by.0 by.1 in
      let same : by.0 ≡ heading = same_Some _ _ (sym (ap (λ hs. slice_get hs place) over.1.methods ∙ front) ∙ at) in
      subst (λ h. IsMethodOf outlines works h method) same by.2

  pub methods_inherited : InheritMethods outlines works before outline
  methods_inherited place heading at =
      if_found (IsMethodOf outlines works heading) (inherited_method before outline.base place) (method_of_base place heading at)

  -- ---- properties
  -- a signal that notifies of a base's property is the class's of that number
  notified_over : (object : MetaObject) (over : IsBaseOf object) (q : ℕ) (d : Property) → slice_get over.base.properties q ≡ Some d → (s : Option Sig) → d.notify ≡ s → (n : Option ℕ) → IsNotify over.base s n → IsNotify outline s n
  notified_over object over q d at None given n is = is
  notified_over object over q d at (Some sig) given None none =
      absurd (none_at (λ (x : Property). LacksNotifier over.base x x.notify) over.base.properties
      (none_at NotifiesBadly outlines next.notified over.number over.base over.is)
      q d at (subst (λ g. LacksNotifier over.base d g) (sym given) (λ n by_it. none n by_it.signal.at)))
  notified_over object over q d at (Some sig) given (Some m) first =
      subst (λ hs. StandsFirst (IsSignalOf sig) hs m) (sym over.methods) (first_in_front (IsSignalOf sig) over.base.methods over.more_methods m first)

  property_of_base : (place : ℕ) (declared : Property) → slice_get outline.properties place ≡ Some declared → (property : MetaProperty) → inherited_property before outline.base place ≡ Some property → IsPropertyOf outlines outline declared property
  property_of_base place declared at property found =
      let over = at_base (λ (object : MetaObject). object.properties) place property found in
      let by = zip_right (IsPropertyOf outlines over.1.base) over.1.base.properties over.0.properties over.1.resolved.properties place property over.2 in
      let front = get_front over.1.base.properties over.1.more_properties place by.0 by.1 in
      let same : by.0 ≡ declared = same_Some _ _ (sym (ap (λ ps. slice_get ps place) over.1.properties ∙ front) ∙ at) in
      subst (λ d. IsPropertyOf outlines outline d property) same
      (record {
        named = by.2.named;
        typed = by.2.typed;
        kind = by.2.kind;
        initial = by.2.initial;
        notify = notified_over over.0 over.1 place by.0 by.1 by.0.notify refl property.notify by.2.notify;
      })

  pub properties_inherited : InheritProperties outlines before outline
  properties_inherited place declared at =
      if_found (IsPropertyOf outlines outline declared) (inherited_property before outline.base place) (property_of_base place declared at)
