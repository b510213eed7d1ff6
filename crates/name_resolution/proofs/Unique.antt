-- Names are looked up in one way.
use Rattle.std.{proofs.Common.{◌≡◌, ℕ, zero, suc, ◌≤◌, List, [], ◌∷◌, ◌++◌, take, length, Option, Some, None, refl, sym, ap, ◌∙◌, subst, arith}, specs.List.{AllZip}, proofs.lemmas.List.{take_all}}
use Rattle.basic_types.specs.{declared.qtype.QType.{QType}, declared.sig.Sig.{Sig}, declared.kind.Kind.{Kind}, declared.value.Value.{Value}}
use Rattle.syntax_trees.specs.{declared.program.Property.{Property}, declared.program.EffectNames.{EffectNames}, declared.program.SlotWork.{SlotWork}, declared.program.Slot.{Slot}, declared.program.Class.{Class}, declared.program.Wire.{Wire}, declared.program.Owns.{Owns}, declared.program.Program.{Program}}
use Rattle.syntax_trees.specs.declared.program.SlotWork.TheVariants as declared
use Rattle.meta_model.specs.{declared.effects.MetaEffects.{MetaEffects}, declared.object.ValueType.{ValueType}, declared.object.Work.{Work}, declared.object.MetaMethod.{MetaMethod}, declared.object.MetaProperty.{MetaProperty}, declared.object.MetaObject.{MetaObject}, declared.object.MetaWire.{MetaWire}, declared.object.MetaOwns.{MetaOwns}, declared.site.MetaSite.{MetaSite}, Loaded.{Loaded}}
use Rattle.class_outlines.{specs.declared.outline.Heading.{Heading}, specs.declared.outline.Outline.{Outline}, specs.Outlines.{IsOutline, Outlines, base_name, own_methods, qobject}, specs.code.ReadTypes.{IsReadAs}, specs.Notifiers.{IsSignalOf}, proofs.Searches.{same_first}, proofs.Firsts.{first_item}, proofs.Prefixes.{inside, next_take}, proofs.SiteProperties.{one_property_in}, proofs.ReadTypes.{same_read}}
use Rattle.name_indexes.specs.Places.{IsPlace}
use Rattle.name_resolution.{specs.declared.body_resolution.work.ResolvedWork.{ResolvedWork}, specs.code.Natives.{HasPropertyIn, HasSignalIn, AreEffects}, specs.code.Bodies.{scope_of, IsWork, IsSlotWork, AreWorks, AllWorks}, specs.code.Wires.{IsWire, IsOwns}, specs.InitialValues.{initial_of}, specs.code.Loading.{IsMethodOf, IsNotify, IsPropertyOf, IsObject, IsLoaded}, specs.code.Sites.{IsSite}, proofs.Ends.{one_end}, proofs.Bodies.{same_statements}, proofs.OneSite.{same_zip, same_site}}
use Rattle.name_resolution.specs.declared.body_resolution.work.ResolvedWork.TheVariants as loads

-- ---- outlines
abbrev outline_by : ℕ → Class → ℕ → Outline → Outline
outline_by i class number base =
    record { name = class.name; base = Some number; methods = base.methods ++ own_methods i class; properties = base.properties ++ class.properties }

same_outline : (done : List Outline) (i : ℕ) (class : Class) (o u : Outline) → IsOutline done i class o → IsOutline done i class u → o ≡ u
same_outline done i class o u h k =
    h.is
    ∙ ap (λ n. outline_by i class n h.based.at.item) (same_first (λ (o : Outline). o.name ≡ base_name class.base) done h.number k.number h.based k.based)
    ∙ ap (λ x. outline_by i class k.number x) (first_item (λ (o : Outline). o.name ≡ base_name class.base) done h.number k.number h.based k.based)
    ∙ sym k.is

-- two lists of a program's outlines begin alike
same_front : (classes : List Class) (all more : List Outline) → Outlines classes all → Outlines classes more → (n : ℕ) → n ≤ length classes → take (suc n) all ≡ take (suc n) more
same_front classes all more h k zero less = next_take all 0 qobject h.root ∙ sym (next_take more 0 qobject k.root)
same_front classes all more h k (suc n) less =
    let before : take (suc n) all ≡ take (suc n) more = same_front classes all more h k n (omega (arith, less)) in
    let class = inside classes n (omega (arith, less)) in
    let a = h.classes n class.0 class.1 in
    let b = k.classes n class.0 class.1 in
    let same : a.outline ≡ b.outline =
    same_outline (take (suc n) all) n class.0 a.outline b.outline a.outlined (subst (λ done. IsOutline done n class.0 b.outline) (sym before) b.outlined) in
    next_take all (suc n) a.outline a.is
    ∙ ap (λ done. done ++ a.outline ∷ []) before
    ∙ ap (λ o. take (suc n) more ++ o ∷ []) same
    ∙ sym (next_take more (suc n) b.outline b.is)

same_outlines : (classes : List Class) (all more : List Outline) → Outlines classes all → Outlines classes more → all ≡ more
same_outlines classes all more h k =
    sym (take_all (suc (length classes)) all (omega (arith, h.counted)))
    ∙ same_front classes all more h k (length classes) (omega arith)
    ∙ take_all (suc (length classes)) more (omega (arith, k.counted))

-- ---- records by their fields
abbrev method_of : Sig → List ValueType → Work → MetaMethod
method_of s ks w = record { sig = s; types = ks; work = w }

abbrev property_of : List ℕ → QType → ValueType → Value → Option ℕ → MetaProperty
property_of n t k v m = record { name = n; declared = t; kind = k; initial = v; notify = m }

abbrev object_of : List ℕ → Option ℕ → List MetaMethod → List MetaProperty → MetaObject
object_of n b ms ps = record { name = n; base = b; methods = ms; properties = ps }

abbrev wire_of : ℕ → ℕ → ℕ → ℕ → Kind → MetaWire
wire_of c s d m k = record { sender = c; signal = s; receiver = d; method = m; kind = k }

abbrev owns_of : ℕ → ℕ → MetaOwns
owns_of c d = record { parent = c; child = d }

abbrev effects_of : List ℕ → List ℕ → List ℕ → MetaEffects
effects_of rs es ss = record { reads = rs; emits = es; sets = ss }

abbrev loaded_of : List MetaObject → List MetaWire → List MetaOwns → List MetaSite → Loaded
loaded_of cs ws os ss = record { classes = cs; wires = ws; owns = os; sites = ss }

module _ (outlines : List Outline) where
  pub same_method : (works : List (List ResolvedWork)) (h : Heading) (m n : MetaMethod) → IsMethodOf outlines works h m → IsMethodOf outlines works h n → m ≡ n
  same_method works h m n a b =
      ap (λ s. method_of s m.types m.work) (a.signed ∙ sym b.signed)
      ∙ ap (λ ks. method_of n.sig ks m.work) (same_zip (IsReadAs outlines) h.sig.types m.types n.types (same_read outlines) a.types b.types)
      ∙ ap (λ w. method_of n.sig n.types w) (a.work ∙ sym b.work)

  pub same_place : {X : Type 0} (P : X → Type 0) (xs : List X) (a b : Option ℕ) → IsPlace P xs a → IsPlace P xs b → a ≡ b
  same_place P xs None None h k = refl
  same_place P xs None (Some j) h k = absurd (h j k.at)
  same_place P xs (Some i) None h k = absurd (k i h.at)
  same_place P xs (Some i) (Some j) h k = ap Some (same_first P xs i j h k)

  same_notify : (o : Outline) (s : Option Sig) (a b : Option ℕ) → IsNotify o s a → IsNotify o s b → a ≡ b
  same_notify o None a b h k = h ∙ sym k
  same_notify o (Some sig) a b h k = same_place (IsSignalOf sig) o.methods a b h k

  -- two loaded forms of a property that are notified by one signal
  pub same_property_by : (o u : Outline) (d : Property) (p q : MetaProperty) → IsPropertyOf outlines o d p → IsPropertyOf outlines u d q → p.notify ≡ q.notify → p ≡ q
  same_property_by o u d p q a b notify =
      let kind : p.kind ≡ q.kind = same_read outlines d.kind p.kind q.kind a.kind b.kind in
      ap (λ x. property_of x p.declared p.kind p.initial p.notify) (a.named ∙ sym b.named)
      ∙ ap (λ x. property_of q.name x p.kind p.initial p.notify) (a.typed ∙ sym b.typed)
      ∙ ap (λ x. property_of q.name q.declared x p.initial p.notify) kind
      ∙ ap (λ x. property_of q.name q.declared q.kind x p.notify) (a.initial ∙ ap (λ k. initial_of d.initial k) kind ∙ sym b.initial)
      ∙ ap (λ x. property_of q.name q.declared q.kind q.initial x) notify

  same_property : (o : Outline) (d : Property) (p q : MetaProperty) → IsPropertyOf outlines o d p → IsPropertyOf outlines o d q → p ≡ q
  same_property o d p q a b = same_property_by o o d p q a b (same_notify o d.notify p.notify q.notify a.notify b.notify)

  pub same_object : (works : List (List ResolvedWork)) (o : Outline) (x y : MetaObject) → IsObject outlines works o x → IsObject outlines works o y → x ≡ y
  same_object works o x y a b =
      ap (λ n. object_of n x.base x.methods x.properties) (a.named ∙ sym b.named)
      ∙ ap (λ n. object_of y.name n x.methods x.properties) (a.based ∙ sym b.based)
      ∙ ap (λ ms. object_of y.name y.base ms x.properties) (same_zip (IsMethodOf outlines works) o.methods x.methods y.methods (same_method works) a.methods b.methods)
      ∙ ap (λ ps. object_of y.name y.base y.methods ps) (same_zip (IsPropertyOf outlines o) o.properties x.properties y.properties (same_property o) a.properties b.properties)

  same_named : (class name : List ℕ) (q r : ℕ) → HasPropertyIn outlines class name q → HasPropertyIn outlines class name r → q ≡ r
  same_named class name q r h k = (one_property_in outlines class class name name refl refl h.number q k.number r h.property k.property h.is k.is).1

  same_emitted : (class : List ℕ) (sig : Sig) (m n : ℕ) → HasSignalIn outlines class sig m → HasSignalIn outlines class sig n → m ≡ n
  same_emitted class sig m n h k = (one_end _ outlines class h.number m k.number n h.is k.is).1

  same_effects : (class : List ℕ) (names : EffectNames) (a b : MetaEffects) → AreEffects outlines class names a → AreEffects outlines class names b → a ≡ b
  same_effects class names a b h k =
      ap (λ x. effects_of x a.emits a.sets) (same_zip (HasPropertyIn outlines class) names.reads a.reads b.reads (same_named class) h.reads k.reads)
      ∙ ap (λ x. effects_of b.reads x a.sets) (same_zip (HasSignalIn outlines class) names.emits a.emits b.emits (same_emitted class) h.emits k.emits)
      ∙ ap (λ x. effects_of b.reads b.emits x) (same_zip (HasPropertyIn outlines class) names.sets a.sets b.sets (same_named class) h.sets k.sets)

  same_work : (class : Class) (slot : Slot) (w : SlotWork) (a b : ResolvedWork) → IsWork (scope_of outlines class slot) w a → IsWork (scope_of outlines class slot) w b → a ≡ b
  same_work class slot (declared.Body body) (loads.Body x) (loads.Body y) h k = ap (λ z. loads.Body z) (same_statements (scope_of outlines class slot) body x y h k)
  same_work class slot (declared.Body body) (loads.Body x) (loads.Native y) h k = absurd k
  same_work class slot (declared.Body body) (loads.Native x) b h k = absurd h
  same_work class slot (declared.Native names) (loads.Native x) (loads.Native y) h k = ap (λ z. loads.Native z) (same_effects class.name names x y h k)
  same_work class slot (declared.Native names) (loads.Native x) (loads.Body y) h k = absurd k
  same_work class slot (declared.Native names) (loads.Body x) b h k = absurd h

  same_works : (classes : List Class) (xs ys : List (List ResolvedWork)) → AllWorks outlines classes xs → AllWorks outlines classes ys → xs ≡ ys
  same_works classes xs ys a b =
      same_zip (AreWorks outlines) classes xs ys
      (λ class us vs h k. same_zip (IsSlotWork outlines class) class.slots us vs (λ slot u v p q. same_work class slot slot.work u v p q) h k) a b

  same_wire : (wire : Wire) (v w : MetaWire) → IsWire outlines wire v → IsWire outlines wire w → v ≡ w
  same_wire wire v w a b =
      let from = one_end _ outlines wire.sender v.sender v.signal w.sender w.signal a.from b.from in
      let to = one_end _ outlines wire.receiver v.receiver v.method w.receiver w.method a.to b.to in
      ap (λ x. wire_of x v.signal v.receiver v.method v.kind) from.0
      ∙ ap (λ x. wire_of w.sender x v.receiver v.method v.kind) from.1
      ∙ ap (λ x. wire_of w.sender w.signal x v.method v.kind) to.0
      ∙ ap (λ x. wire_of w.sender w.signal w.receiver x v.kind) to.1
      ∙ ap (λ x. wire_of w.sender w.signal w.receiver w.method x) (a.same_kind ∙ sym b.same_kind)

  same_owns : (owns : Owns) (v w : MetaOwns) → IsOwns outlines owns v → IsOwns outlines owns w → v ≡ w
  same_owns owns v w a b =
      ap (λ x. owns_of x v.child) (same_first _ outlines v.parent w.parent a.parent b.parent)
      ∙ ap (λ x. owns_of w.parent x) (same_first _ outlines v.child w.child a.child b.child)

  pub same_loaded : (program : Program) (a b : Loaded) → IsLoaded program outlines a → IsLoaded program outlines b → a ≡ b
  same_loaded program a b h k =
      let works = same_works program.classes h.works k.works h.uses.are_works k.uses.are_works in
      let classes =
      same_zip (IsObject outlines h.works) outlines a.classes b.classes (same_object h.works) h.objects
      (subst (λ ws. AllZip (IsObject outlines ws) outlines b.classes) (sym works) k.objects) in
      ap (λ x. loaded_of x a.wires a.owns a.sites) classes
      ∙ ap (λ x. loaded_of b.classes x a.owns a.sites) (same_zip (IsWire outlines) program.wires a.wires b.wires same_wire h.uses.wired k.uses.wired)
      ∙ ap (λ x. loaded_of b.classes b.wires x a.sites) (same_zip (IsOwns outlines) program.owns a.owns b.owns same_owns h.uses.owned k.uses.owned)
      ∙ ap (λ x. loaded_of b.classes b.wires b.owns x) (same_zip (IsSite outlines) program.sites a.sites b.sites (same_site outlines) h.uses.sited k.uses.sited)

pub same_all : (program : Program) (all more : List Outline) → Outlines program.classes all → Outlines program.classes more → all ≡ more
same_all program all more h k = same_outlines program.classes all more h k
