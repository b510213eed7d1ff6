-- What draws no edge.
use Rattle.std.{proofs.Common.{◌≡◌, ◌≢◌, ◌↔◌, ◌⊎◌, inl, inr, ℕ, ◌+◌, ◌<◌, ◌≤◌, true, false, true≢false, IsTrue, IfNone, IsSome, List, [], ◌∷◌, ◌++◌, length, get_or, take, slice_get, Option, Some, None, refl, sym, ap, ◌∙◌, subst, eqb, arith}, specs.List.{Contains, list_any}, proofs.lemmas.List.{take_more, take_all}, proofs.lemmas.Option.{same_Some, none-some}}
use Rattle.syntax_trees.specs.declared.syntax.Expr.{Expr}
use Rattle.meta_model.{specs.declared.qobject.TheConstants.{DESTROYED}, specs.declared.object.ValueType.{ValueType}, specs.declared.object.MetaObject.{MetaObject}, specs.declared.object.MetaPath.{MetaPath}, specs.declared.object.MetaMethod.{MetaMethod}, specs.declared.object.MetaProperty.{MetaProperty}, specs.declared.object.Work.{Work}, specs.declared.object.Work.TheVariants.{Signal, Slot, Native}, specs.declared.effects.MetaEffects.{MetaEffects}, specs.declared.object.Statement.{Statement}, specs.declared.object.Statement.TheViews.{out-Statement}, specs.Loaded.{Loaded}, specs.Members.{IsMethod, IsProperty}, proofs.InLists.{place_in}}
use Rattle.name_indexes.specs.Places.{NoneStands}
use Rattle.meta_model.specs.declared.object.Statement.TheOpen as layer
use Rattle.meta_model.specs.declared.object.Statement.TheVariants as whole
use Rattle.effect_scan.{specs.declared.node.Node.{Node}, specs.declared.node.Member.{Member}, specs.declared.node.Member.TheVariants.{Method, Property, Destruction}, specs.declared.effect.Reach.{Reach}, specs.declared.effect.Effect.{Effect}, specs.Nodes.{node, named}, specs.Effects.{effect_of, Occurs, BodyHas, StatementHas, NativeHas, WorkHas}, specs.Edges.{ReachedAs, Reaches, ByWork, ByWire, ByNotify, BySite, MayLead, by_work, by_wire, by_notify, by_site, by_destruction}, specs.Destroying.{Closure}, proofs.Occurring.{IsPlain, no_blocks, plain_only, alone, body_none, occurs_either}, proofs.Containing.{any_has}, proofs.Whole.{made}}
use Rattle.effect_scan.specs.declared.effect.Reach.TheVariants as reach
use Rattle.edge_reasons.{specs.Reasons.{BodyLeads, DoesTo, NativeLeads, WireJoins, SiteBinds}, proofs.Drawing.{leads_alone}}

-- ---- answers
pub yes : {A : Type 0} → A → IsTrue true ↔ A
yes a = (λ h. a, λ h. refl)

pub no : {A : Type 0} → ¬ A → IsTrue false ↔ A
no none = (λ h. absurd (true≢false (sym h)), λ h. absurd (none h))

pub also : {A B C : Type 0} → A ↔ B → B ↔ C → A ↔ C
also p q = (λ a. q.0 (p.0 a), λ c. p.1 (q.1 c))

pub if_none : {X P Q : Type 0} (o : Option X) → (P → Q) → IfNone o P → IfNone o Q
if_none None f p = f p
if_none (Some x) f p = tt

-- ---- members
-- a number for each kind of member, and the number in it
abbrev kind_in : Member → ℕ
kind_in (Method m) = 0
kind_in (Property q) = 1
kind_in Destruction = 2

abbrev number_in : Member → ℕ
number_in (Method m) = m
number_in (Property q) = q
number_in Destruction = 0

pub same_method : (m n : ℕ) → Method m ≡ Method n → m ≡ n
same_method m n e = ap number_in e

pub same_property : (m n : ℕ) → Property m ≡ Property n → m ≡ n
same_property m n e = ap number_in e

pub method_property : (m q : ℕ) → Method m ≡ Property q → ⊥
method_property m q e = let bad : 0 ≡ 1 = ap kind_in e in absurd (omega (arith, bad))

pub method_destruction : (m : ℕ) → Method m ≡ Destruction → ⊥
method_destruction m e = let bad : 0 ≡ 2 = ap kind_in e in absurd (omega (arith, bad))

pub property_destruction : (q : ℕ) → Property q ≡ Destruction → ⊥
property_destruction q e = let bad : 1 ≡ 2 = ap kind_in e in absurd (omega (arith, bad))

-- ---- what an effect reaches
pub reached_member : (p : Loaded) (c : ℕ) (member : Member) (r : Reach) (y : Node) → ReachedAs p c member r y → member ≡ y.member
reached_member p c member reach.Own y h = sym (ap (λ (x : Node). x.member) h)
reached_member p c member (reach.Below k) y h = sym h.is

-- ---- statements
module _ (p : Loaded) (c : ℕ) (types : List ValueType) (y : Node) where
  pub does_so : (t : Statement) (e : Effect) → Some e ≡ effect_of types (out-Statement t) → Reaches p c e y → DoesTo p c types t y
  does_so t e is to = record { effect = e; is = sym is; to = to }

  pub does_it : (t : Statement) (e : Effect) → Some e ≡ effect_of types (out-Statement t) → DoesTo p c types t y → Reaches p c e y
  does_it t e is d = subst (λ (x : Effect). Reaches p c x y) (same_Some _ _ (sym d.is ∙ sym is)) d.to

  pub does_leads : (t : Statement) → DoesTo p c types t y → BodyLeads p c types (t ∷ []) y
  does_leads t d = leads_alone p c types y t d.effect d.is d.to

  has_of : (body : List Statement) (h : BodyLeads p c types body y) → BodyHas types body h.effect
  has_of body h = record { statement = h.statement; occurs = h.occurs; is = h.is }

  of_has : (body : List Statement) (e : Effect) → BodyHas types body e → Reaches p c e y → BodyLeads p c types body y
  of_has body e b to = record { statement = b.statement; occurs = b.occurs; effect = e; is = b.is; to = to }

  pub plain_does : (t : Statement) → IsPlain t → BodyLeads p c types (t ∷ []) y → DoesTo p c types t y
  plain_does t bare h = record {
    effect = h.effect;
    is = plain_only types (out-Statement t) h.effect (no_blocks t bare) (alone types t h.effect (has_of (t ∷ []) h));
    to = h.to;
  }

  pub if_leads : (t : Statement) (x : Expr MetaPath) (block other left right : List Statement) → t ≡ whole.If x block other → left ≡ block → right ≡ other → BodyLeads p c types (t ∷ []) y → BodyLeads p c types left y ⊎ BodyLeads p c types right y
  if_leads t x block other left right is l r h =
      let has : BodyHas types block h.effect ⊎ BodyHas types other h.effect =
      subst (λ (z : layer.Statement-F Statement). StatementHas types z h.effect) (ap out-Statement is ∙ whole.outs-If x block other) (alone types t h.effect (has_of (t ∷ []) h)) in
      elim has [
        | inl one ↦ inl (subst (λ (b : List Statement). BodyLeads p c types b y) (sym l) (of_has block h.effect one h.to))
        | inr two ↦ inr (subst (λ (b : List Statement). BodyLeads p c types b y) (sym r) (of_has other h.effect two h.to))
      ]

  pub group_leads : (t : Statement) (sets given : List Statement) → t ≡ whole.Group sets → given ≡ sets → BodyLeads p c types (t ∷ []) y → BodyLeads p c types given y
  group_leads t sets given is e h =
      let has : BodyHas types sets h.effect =
      subst (λ (z : layer.Statement-F Statement). StatementHas types z h.effect) (ap out-Statement is ∙ whole.outs-Group sets) (alone types t h.effect (has_of (t ∷ []) h)) in
      subst (λ (b : List Statement). BodyLeads p c types b y) (sym e) (of_has sets h.effect has h.to)

  pub no_leads : ¬ BodyLeads p c types [] y
  no_leads h = body_none types h.effect (has_of [] h)

  pub leads_no_more : (body : List Statement) (i : ℕ) (t : Statement) → i < length body → t ≡ get_or body i t → ¬ BodyLeads p c types (take i body) y → ¬ BodyLeads p c types (t ∷ []) y → ¬ BodyLeads p c types (take (i + 1) body) y
  leads_no_more body i t inside is before now h =
      let more : take (i + 1) body ≡ take i body ++ t ∷ [] = take_more body i t inside ∙ ap (λ (z : Statement). take i body ++ z ∷ []) (sym is) in
      elim (occurs_either h.statement (take i body) (t ∷ []) (subst (λ (l : List Statement). Occurs h.statement l) more h.occurs)) [
        | inl l ↦ before (record { statement = h.statement; occurs = l; effect = h.effect; is = h.is; to = h.to })
        | inr r ↦ now (record { statement = h.statement; occurs = r; effect = h.effect; is = h.is; to = h.to })
      ]

  pub leads_never : (body : List Statement) (i : ℕ) → length body ≤ i → ¬ BodyLeads p c types (take i body) y → ¬ BodyLeads p c types body y
  leads_never body i past none h = none (subst (λ (l : List Statement). BodyLeads p c types l y) (sym (take_all i body past)) h)

-- ---- natives
module _ (c : ℕ) (effects : MetaEffects) (y : Node) where
  pub native_class : NativeLeads c effects y → y.class ≡ c
  native_class h = ap (λ (x : Node). x.class) h.to

  member_of : (h : NativeLeads c effects y) → y.member ≡ h.member
  member_of h = ap (λ (x : Node). x.member) h.to

  pub native_emitted : (m : ℕ) (listed : List ℕ) → listed ≡ effects.emits → y.member ≡ Method m → NativeLeads c effects y → list_any (λ z. eqb z m) listed ≡ true
  native_emitted m listed e is h =
      elim h.has [
        | inl emits ↦
            let same : m ≡ emits.number = same_method m emits.number (sym is ∙ member_of h ∙ ap (λ (x : Effect). x.member) emits.is) in
            any_has m listed (subst (λ (xs : List ℕ). Contains xs m) (sym e) (subst (λ (k : ℕ). Contains effects.emits k) (sym same) emits.among))
        | inr sets ↦ absurd (method_property m sets.number (sym is ∙ member_of h ∙ ap (λ (x : Effect). x.member) sets.is))
      ]

  pub native_set : (q : ℕ) (listed : List ℕ) → listed ≡ effects.sets → y.member ≡ Property q → NativeLeads c effects y → list_any (λ z. eqb z q) listed ≡ true
  native_set q listed e is h =
      elim h.has [
        | inl emits ↦ absurd (method_property emits.number q (sym (ap (λ (x : Effect). x.member) emits.is) ∙ sym (member_of h) ∙ is))
        | inr sets ↦
            let same : q ≡ sets.number = same_property q sets.number (sym is ∙ member_of h ∙ ap (λ (x : Effect). x.member) sets.is) in
            any_has q listed (subst (λ (xs : List ℕ). Contains xs q) (sym e) (subst (λ (k : ℕ). Contains effects.sets k) (sym same) sets.among))
      ]

  pub native_spares : y.member ≡ Destruction → ¬ NativeLeads c effects y
  native_spares is h =
      elim h.has [
        | inl emits ↦ method_destruction emits.number (sym (ap (λ (x : Effect). x.member) emits.is) ∙ sym (member_of h) ∙ is)
        | inr sets ↦ property_destruction sets.number (sym (ap (λ (x : Effect). x.member) sets.is) ∙ sym (member_of h) ∙ is)
      ]

-- ---- methods
one_method : (p : Loaded) (c m : ℕ) (a b : MetaMethod) → IsMethod p c m a → IsMethod p c m b → a ≡ b
one_method p c m a b x y =
    let class = same_Some _ _ (sym x.is_class.is ∙ y.is_class.is) in
    same_Some _ _ (sym x.is ∙ ap (λ (k : MetaObject). slice_get k.methods m) class ∙ y.is)

module _ (p : Loaded) (x y : Node) (m : ℕ) (from : x.member ≡ Method m) where
  is_method : (w : ByWork p x y) → IsMethod p x.class m w.method
  is_method w = subst (λ (k : ℕ). IsMethod p x.class k w.method) (same_method w.number m (sym w.from ∙ from)) w.is

  pub no_method : ((method : MetaMethod) → ¬ IsMethod p x.class m method) → ¬ ByWork p x y
  no_method none w = none w.method (is_method w)

  module _ (method : MetaMethod) (is : IsMethod p x.class m method) where
    work_has : (w : ByWork p x y) → WorkHas method.types method.work w.effect
    work_has w = subst (λ (f : MetaMethod). WorkHas f.types f.work w.effect) (one_method p x.class m w.method method (is_method w) is) w.has

    pub no_signal : method.work ≡ Signal → ¬ ByWork p x y
    no_signal signals w = subst (λ (k : Work). WorkHas method.types k w.effect) signals (work_has w)

    pub no_body : (body given : List Statement) (types : List ValueType) → method.work ≡ Slot body → given ≡ body → types ≡ method.types → ¬ BodyLeads p x.class types given y → ¬ ByWork p x y
    no_body body given types slots at typed none w =
        let has : BodyHas method.types body w.effect = subst (λ (k : Work). WorkHas method.types k w.effect) slots (work_has w) in
        let told : BodyHas types given w.effect = subst (λ (ks : List ValueType). BodyHas ks given w.effect) (sym typed) (subst (λ (b : List Statement). BodyHas method.types b w.effect) (sym at) has) in
        none (record { statement = told.statement; occurs = told.occurs; effect = w.effect; is = told.is; to = w.to })

    pub no_native : (effects : MetaEffects) → method.work ≡ Native effects → ¬ NativeLeads x.class effects y → ¬ ByWork p x y
    no_native effects natives none w =
        let has : NativeHas effects w.effect = subst (λ (k : Work). WorkHas method.types k w.effect) natives (work_has w) in
        elim has [
          | inl emits ↦ none (record {
            member = Method emits.number;
            has = inl (record { number = emits.number; among = emits.among; is = refl });
            to = subst (λ (e : Effect). Reaches p x.class e y) emits.is w.to;
          })
          | inr sets ↦ none (record {
            member = Property sets.number;
            has = inr (record { number = sets.number; among = sets.among; is = refl });
            to = subst (λ (e : Effect). Reaches p x.class e y) sets.is w.to;
          })
        ]

-- ---- wires and bindings
pub no_wire : (p : Loaded) (x y : Node) → NoneStands (WireJoins p x y) p.wires → ¬ ByWire p x y
no_wire p x y none w =
    let at = place_in p.wires w.wire w.declared in
    none at.0 (record { item = w.wire; is = at.1; has = record { at_once = w.at_once; from = w.from; to = w.to } })

pub no_site : (p : Loaded) (x y : Node) → NoneStands (SiteBinds p x y) p.sites → ¬ BySite p x y
no_site p x y none s =
    let at = place_in p.sites s.site s.declared in
    none at.0
    (record {
      item = s.site;
      is = at.1;
      has = record { reads = record { source = s.source; among = s.reads; is = record { class = s.class; formal = s.formal; from = s.from } }; to = s.to };
    })

-- ---- notify signals
module _ (p : Loaded) (c q : ℕ) (y : Node) where
  own_property : (h : ByNotify p (node c (Property q)) y) → IsProperty p c q h.property
  own_property h = subst (λ (k : ℕ). IsProperty p c k h.property) (sym (same_property q h.number h.from)) h.is

  pub no_object : None ≡ slice_get p.classes c → ¬ ByNotify p (node c (Property q)) y
  no_object none h = none-some _ (none ∙ h.is.is_class.is)

  module _ (class : MetaObject) (is : Some class ≡ slice_get p.classes c) where
    in_class : (h : ByNotify p (node c (Property q)) y) → slice_get class.properties q ≡ Some h.property
    in_class h =
        let own = own_property h in
        subst (λ (k : MetaObject). slice_get k.properties q ≡ Some h.property) (same_Some _ _ (sym own.is_class.is ∙ sym is)) own.is

    pub no_property : None ≡ slice_get class.properties q → ¬ ByNotify p (node c (Property q)) y
    no_property none h = none-some _ (none ∙ in_class h)

    module _ (property : MetaProperty) (at : Some property ≡ slice_get class.properties q) where
      same_notify : (h : ByNotify p (node c (Property q)) y) → property.notify ≡ Some h.signal
      same_notify h = ap (λ (f : MetaProperty). f.notify) (same_Some _ _ (at ∙ in_class h)) ∙ h.notifies

      pub no_notify : property.notify ≡ None → ¬ ByNotify p (node c (Property q)) y
      no_notify none h = none-some _ (sym none ∙ same_notify h)

      pub notified_is : (signal : ℕ) → property.notify ≡ Some signal → ByNotify p (node c (Property q)) y → y ≡ node c (Method (named signal))
      notified_is signal notifies h = h.to ∙ ap (λ (s : ℕ). node c (Method (named s))) (same_Some _ _ (sym (same_notify h) ∙ notifies))

-- ---- all reasons
module _ (p : Loaded) (x y : Node) where
  pub none_from_method : (m : ℕ) → x.member ≡ Method m → ¬ ByWork p x y → ¬ ByWire p x y → ¬ MayLead p x y
  none_from_method m from works wires (by_work w) = works w
  none_from_method m from works wires (by_wire w) = wires w
  none_from_method m from works wires (by_notify n) = method_property m n.number (sym from ∙ n.from)
  none_from_method m from works wires (by_site s) = method_property m s.source.property (sym from ∙ s.from.is)
  none_from_method m from works wires (by_destruction d) = method_destruction m (sym from ∙ d.from)

  pub none_from_property : (q : ℕ) → x.member ≡ Property q → ¬ ByNotify p (node x.class (Property q)) y → ¬ BySite p x y → ¬ MayLead p x y
  none_from_property q from notifies sites (by_work w) = method_property w.number q (sym w.from ∙ from)
  none_from_property q from notifies sites (by_wire w) = method_property (named w.wire.signal) q (sym w.from.is ∙ from)
  none_from_property q from notifies sites (by_notify n) = notifies (subst (λ (z : Node). ByNotify p z y) (sym (made x x.class (Property q) refl from)) n)
  none_from_property q from notifies sites (by_site s) = sites s
  none_from_property q from notifies sites (by_destruction d) = property_destruction q (sym from ∙ d.from)

  pub none_from_destruction : x.member ≡ Destruction → y.member ≢ Method DESTROYED → ¬ MayLead p x y
  none_from_destruction from other (by_work w) = method_destruction w.number (sym w.from ∙ from)
  none_from_destruction from other (by_wire w) = method_destruction (named w.wire.signal) (sym w.from.is ∙ from)
  none_from_destruction from other (by_notify n) = property_destruction n.number (sym n.from ∙ from)
  none_from_destruction from other (by_site s) = property_destruction s.source.property (sym s.from.is ∙ from)
  none_from_destruction from other (by_destruction d) = other d.to

  -- ---- a destruction that leads to an announcement
  pub destroyed_with : x.member ≡ Destruction → MayLead p x y → Closure p x.class y.class
  destroyed_with from (by_work w) = absurd (method_destruction w.number (sym w.from ∙ from))
  destroyed_with from (by_wire w) = absurd (method_destruction (named w.wire.signal) (sym w.from.is ∙ from))
  destroyed_with from (by_notify n) = absurd (property_destruction n.number (sym n.from ∙ from))
  destroyed_with from (by_site s) = absurd (property_destruction s.source.property (sym s.from.is ∙ from))
  destroyed_with from (by_destruction d) = d.closure

-- what leads nowhere has a reason only if it doesn't lead nowhere
pub some_if : {X P : Type 0} (o : Option X) → IfNone o (¬ P) → P → IsSome o
some_if None none p = absurd (none p)
some_if (Some x) none p = refl
