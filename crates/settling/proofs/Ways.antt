-- Whether each way between two nodes hands on.
use Rattle.std.proofs.{Common.{◌≡◌, inl, inr, ℕ, zero, suc, false, List, [], ◌∷◌, Some, slice_get, sym, ap, ◌∙◌, subst}, lemmas.Option.{none-some, same_Some}}
use Rattle.meta_model.specs.{declared.effects.MetaEffects.{MetaEffects}, declared.object.MetaMethod.{MetaMethod}, declared.object.MetaObject.{MetaObject}, declared.object.Statement.{Statement}, declared.object.ValueType.{ValueType}, declared.object.Work.{Work}, declared.object.Work.TheVariants.{Signal, Slot, Native}, Loaded.{Loaded}, Members.{IsMethod, IsIn}}
use Rattle.name_indexes.specs.Places.{StandsFirst}
use Rattle.effect_scan.specs.{declared.effect.Effect.{Effect}, declared.node.Member.{Member}, declared.node.Member.TheVariants.{Method, Property, Destruction}, declared.node.Node.{Node}, Effects.{WorkHas}, Edges.{Reaches, ByWork, MayLead, by_work, by_site, by_destruction}}
use Rattle.edge_reasons.specs.Reasons.{IsNative, SiteBinds, IsAnnounced}
use Rattle.settling.specs.{Hands.{WorkHands, HandOn}, code.Bodies.{BodyHands, WorksHand}}

one_method : (p : Loaded) (c m : ℕ) (a b : MetaMethod) → IsMethod p c m a → IsMethod p c m b → a ≡ b
one_method p c m a b x y =
    let class = same_Some _ _ (sym x.is_class.is ∙ y.is_class.is) in
    same_Some _ _ (sym x.is ∙ ap (λ (k : MetaObject). slice_get k.methods m) class ∙ y.is)

abbrev number_of : Member → ℕ
number_of (Method m) = m
number_of (Property q) = q
number_of Destruction = 0

found_in : {X : Type 0} (xs : List X) (k : ℕ) (x : X) → slice_get xs k ≡ Some x → IsIn x xs
found_in [] k x e = absurd (none-some x e)
found_in (y ∷ ys) zero x e = inl (sym (same_Some y x e))
found_in (y ∷ ys) (suc k) x e = inr (found_in ys k x e)

-- ---- works

module _ (p : Loaded) (c : ℕ) (y : Node) (types : List ValueType) (body : List Statement) where
  body_works : (work : Work) → work ≡ Slot body → BodyHands p c types false body y → (effect : Effect) (has : WorkHas types work effect) → Reaches p c effect y → WorkHands types work effect has
  body_works Signal e hands effect has to = absurd has
  body_works (Slot other) e hands effect has to =
      let same : other ≡ body = cc e in
      subst (λ (b : List Statement). BodyHands p c types false b y) (sym same) hands has.statement has.occurs (record { effect = effect; is = has.is; to = to })
  body_works (Native effects) e hands effect has to = absurd (cc e)

  works_body : (work : Work) → work ≡ Slot body → ((effect : Effect) (has : WorkHas types work effect) → Reaches p c effect y → WorkHands types work effect has) → BodyHands p c types false body y
  works_body Signal e all = absurd (cc e)
  works_body (Slot other) e all =
      let same : other ≡ body = cc e in
      subst (λ (b : List Statement). BodyHands p c types false b y) same (λ t o d. all d.effect (record { statement = t; occurs = o; is = d.is }) d.to)
  works_body (Native effects) e all = absurd (cc e)

not_native : (types : List ValueType) (effects : MetaEffects) (work : Work) (effect : Effect) (has : WorkHas types work effect) → work ≡ Native effects → WorkHands types work effect has → ⊥
not_native types effects Signal effect has e hands = hands
not_native types effects (Slot body) effect has e hands = absurd (cc e)
not_native types effects (Native others) effect has e hands = hands

pub no_works : (p : Loaded) (x y : Node) → ¬ ByWork p x y → WorksHand p x y
no_works p x y none w = absurd (none w)

module _ (p : Loaded) (x y : Node) (m : ℕ) (from : x.member ≡ Method m) where
  at_number : (w : ByWork p x y) → IsMethod p x.class m w.method
  at_number w = subst (λ (k : ℕ). IsMethod p x.class k w.method) (ap number_of (sym w.from ∙ from)) w.is

  pub no_method : ((method : MetaMethod) → ¬ IsMethod p x.class m method) → ¬ ByWork p x y
  no_method none w = none w.method (at_number w)

  module _ (method : MetaMethod) (is : IsMethod p x.class m method) where
    same_method : (w : ByWork p x y) → w.method ≡ method
    same_method w = one_method p x.class m w.method method (at_number w) is

    pub native_works : (effects : MetaEffects) → method.work ≡ Native effects → ByWork p x y → ¬ WorksHand p x y
    native_works effects native w all = not_native w.method.types effects w.method.work w.effect w.has (ap (λ (k : MetaMethod). k.work) (same_method w) ∙ native) (all w)

    module _ (body given : List Statement) (types : List ValueType) (slot : method.work ≡ Slot body) (at : given ≡ body) (typed : types ≡ method.types) where
      pub slot_works : BodyHands p x.class types false given y → WorksHand p x y
      slot_works hands w =
          let in_body : BodyHands p x.class method.types false body y =
          subst (λ (ks : List ValueType). BodyHands p x.class ks false body y) typed (subst (λ (b : List Statement). BodyHands p x.class types false b y) at hands) in
          body_works p x.class y w.method.types body w.method.work (ap (λ (k : MetaMethod). k.work) (same_method w) ∙ slot)
          (subst (λ (k : MetaMethod). BodyHands p x.class k.types false body y) (sym (same_method w)) in_body) w.effect w.has w.to

      pub works_slot : WorksHand p x y → BodyHands p x.class types false given y
      works_slot all =
          let in_body : BodyHands p x.class method.types false body y =
          works_body p x.class y method.types body method.work slot
          (λ effect has to. all (record { number = m; method = method; is = is; from = from; effect = effect; has = has; to = to })) in
          subst (λ (b : List Statement). BodyHands p x.class types false b y) (sym at) (subst (λ (ks : List ValueType). BodyHands p x.class ks false body y) (sym typed) in_body)

-- ---- all ways

module _ (p : Loaded) (x y : Node) where
  pub works_of : HandOn p x y → WorksHand p x y
  works_of all w = all (by_work w)

  pub native_not : ByWork p x y → IsNative p x → ¬ HandOn p x y
  native_not w native all = native_works p x y native.number native.from native.method native.is native.effects native.native w (works_of all)

  pub site_not : (k : ℕ) → StandsFirst (SiteBinds p x y) p.sites k → ¬ HandOn p x y
  site_not k first all =
      let at = first.at in
      all (by_site (record {
        site = at.item;
        declared = found_in p.sites k at.item at.is;
        source = at.has.reads.source;
        reads = at.has.reads.among;
        class = at.has.reads.is.class;
        formal = at.has.reads.is.formal;
        from = at.has.reads.is.from;
        to = at.has.to;
      }))

  pub deletion_not : IsAnnounced p x y → MayLead p x y → ¬ HandOn p x y
  deletion_not d leads all = all (by_destruction (record { from = d.from; to = d.to; closure = d.with_it leads }))
