-- Bindings of sites: whether one may be installed, and what a bind answers.
use Rattle.std.{proofs.Common.{◌≡◌, ◌<◌, ◌≤◌, inl, inr, length, arith, ℕ, List, [], ◌∷◌, ◌++◌, zero, suc, Option, None, Some, Result, Ok, Err, refl, ap, sym, ◌∙◌, subst}, specs.Prelude.{slice_get}, specs.Option.{option_map, option_and_then}, specs.Result.{IsErrAnd}, proofs.lemmas.Option.{same_Some, slice_get_cases}}
use Rattle.basic_types.specs.declared.value.Value.{Value}
use Rattle.syntax_trees.specs.declared.syntax.Expr.{Expr}
use Rattle.expressions.specs.{declared.evaluation.EvalFault.{EvalFault}, Evaluation.{Evaluates}}
use Rattle.expressions.specs.declared.evaluation.EvalFault.TheVariants as eval
use Rattle.meta_model.specs.{declared.object.MetaObject.{MetaObject}, declared.object.MetaProperty.{MetaProperty}, declared.site.MetaSite.{MetaSite}, declared.site.SourceProperty.{SourceProperty}, Loaded.{Loaded}, Members.{IsClass, IsProperty, base_of, Below, same, under}, Sound.{IsSound, IsSoundSite, IsPlain}}
use Rattle.object_tree.{specs.declared.life.Life.{Life}, specs.declared.object.Object.{Object}, proofs.Changing.{life-of-lives}}
use Rattle.binding_graph.specs.{declared.binding.Binding.{Binding}, Places.{property_of}, Bindings.{binding_at, replaced, value_of, Loop}}
use Rattle.prop_bindings.{specs.declared.plans.fault.BindFault.{BindFault}, specs.declared.plans.planned.PlannedBind.{PlannedBind}, specs.declared.preparing.PreparedBinding.{PreparedBinding}, specs.FaultNumbers.{fault_of}, specs.Values.{values_in}, specs.Calls.{IsOf, MayBind, CoversBinding, binding_of, new_binding, IsNotBound, bad_source, bad_type, closes, no_memory}, specs.Plans.{PlansBind, after}, specs.code.Parts.{IsPrepared, Prepares, IsNotInstalled, loops, short, Installs}, specs.Changes.{IsInstalled}, specs.Fits.{FitsAt, IsFit}, proofs.Calling.{fits-of}}
use Rattle.prop_bindings.specs.declared.plans.fault.BindFault.TheVariants as bind

-- ---- a property's number is the same in each class below
get-front : {X : Type 0} (xs ys : List X) (k : ℕ) (x : X) → slice_get xs k ≡ Some x → slice_get (xs ++ ys) k ≡ Some x
get-front [] ys k x is = absurd (cc is)
get-front (z ∷ zs) ys zero x is = is
get-front (z ∷ zs) ys (suc k) x is = get-front zs ys k x is

base-property : (p : Loaded) → IsSound p → (c b q : ℕ) (property : MetaProperty) → base_of p c ≡ Some b → IsProperty p b q property → IsProperty p c q property
base-property p sound c b q property base h = by-class (slice_get p.classes c) refl base
  where
    by-class : (there : Option MetaObject) → slice_get p.classes c ≡ there → option_and_then (λ (class : MetaObject). class.base) there ≡ Some b → IsProperty p c q property
    by-class None at e = absurd (cc e)
    by-class (Some class) at e =
        let is : IsClass p c class = record { is = at } in
        let up = (sound.classes c class is).under b e in
        let one : h.class ≡ up.base = same_Some h.class up.base (sym h.is_class.is ∙ up.is.is) in
        let front : slice_get up.base.properties q ≡ Some property = ap (λ (z : MetaObject). slice_get z.properties q) (sym one) ∙ h.is in
        record {
          class = class;
          is_class = is;
          is = ap (λ (zs : List MetaProperty). slice_get zs q) up.properties ∙ get-front up.base.properties up.own_properties q property front;
        }

below-property : (p : Loaded) → IsSound p → {c d : ℕ} → Below p c d → (q : ℕ) (property : MetaProperty) → IsProperty p d q property → IsProperty p c q property
below-property p sound (same is) q property h = h
below-property p sound (under {c = c} {b = b} {d = d} base below) q property h = base-property p sound c b q property base (below-property p sound below q property h)

property-once : (p : Loaded) (c d q : ℕ) (x y : MetaProperty) → c ≡ d → IsProperty p c q x → IsProperty p d q y → x ≡ y
property-once p c d q x y e h g =
    let one : h.class ≡ g.class = same_Some h.class g.class (sym h.is_class.is ∙ ap (slice_get p.classes) e ∙ g.is_class.is) in
    same_Some x y (sym h.is ∙ ap (λ (z : MetaObject). slice_get z.properties q) one ∙ g.is)

-- a site's target is of a value type
plain-at : (p : Loaded) → IsSound p → (objects : List Object) (site : MetaSite) → IsSoundSite p site → (target : ℕ) (v : Value) → IsOf p objects target site.class → (f : FitsAt p objects (property_of target site.property) v) → IsPlain f.property.kind
plain-at p sound objects site is target v of f =
    let class : f.life.class ≡ of.class = same_Some f.life.class of.class (sym (ap (option_map (λ (l : Life). l.class)) (life-of-lives f.lives)) ∙ of.is) in
    let here = below-property p sound of.below site.property is.target.property is.target.is in
    let one : f.property ≡ is.target.property = property-once p f.life.class of.class site.property f.property is.target.property class f.is_property here in
    subst (λ (z : MetaProperty). IsPlain z.kind) (sym one) is.target.plain

-- ---- what `prepare` answers
pub nothing-past : (sites : List MetaSite) (k : ℕ) → length sites ≤ k → slice_get sites k ≡ None
nothing-past sites k past = elim (slice_get_cases sites k).1 [
  | inl found ↦ let within : k < length sites = found.1 in absurd (omega (arith, within, past))
  | inr none ↦ none.1
]

abbrev pub made_of : MetaSite → ℕ → ℕ → List ℕ → Expr SourceProperty → Binding
made_of site number target xs f = record { site = number; target = property_of target site.property; sources = xs; formula = f }

pub built-is : (site : MetaSite) (number target : ℕ) (xs ys : List ℕ) (f : Expr SourceProperty) → xs ≡ ys → f ≡ site.formula → made_of site number target xs f ≡ binding_of site number target ys
built-is site number target xs ys f e g =
    ap (λ (zs : List ℕ). made_of site number target zs f) e ∙ ap (λ (h : Expr SourceProperty). made_of site number target ys h) g

module _ (p : Loaded) (objects : List Object) (number target : ℕ) (sources : List ℕ) where
  pub no-site : slice_get p.sites number ≡ None → (bs : List Binding) → IsNotBound p objects bs number target sources bind.BadSource
  no-site none bs = bad_source (λ sited. (let is : slice_get p.sites number ≡ Some sited.site = sited.is in cc (none, is)))

  module _ (site : MetaSite) (found : slice_get p.sites number ≡ Some site) where
    pub not-covered : (¬ CoversBinding p objects site target sources) → (bs : List Binding) → IsNotBound p objects bs number target sources bind.BadSource
    not-covered out bs = bad_source (λ sited. out (subst (λ (s : MetaSite). CoversBinding p objects s target sources) (same_Some sited.site site (sym sited.is ∙ found)) sited.covers))

  module _ (may : MayBind p objects number target sources) (b : Binding) (is : b ≡ new_binding may) where
    pub no-value : value_of b (values_in objects) ≡ None → (bs : List Binding) → IsNotBound p objects bs number target sources bind.BadType
    no-value none bs = bad_type may (λ fit. (
        let has : value_of b (values_in objects) ≡ Some fit.value = ap (λ (z : Binding). value_of z (values_in objects)) is ∙ fit.is in
        cc (none, has)))

    pub evaluates-not : (fault : EvalFault) → Evaluates (value_of b (values_in objects)) (Err fault) → (bs : List Binding) → IsNotBound p objects bs number target sources (fault_of fault)
    evaluates-not eval.BadType none bs = no-value none bs
    evaluates-not eval.Memory none bs = no_memory

    pub other-type : (v : Value) → value_of b (values_in objects) ≡ Some v → (¬ FitsAt p objects b.target v) → (bs : List Binding) → IsNotBound p objects bs number target sources bind.BadType
    other-type v has out bs = bad_type may (λ fit. out (fits-of p objects b v (subst (IsFit p objects) (sym is) fit) has))

    pub prepared : IsSound p → IsSoundSite p may.sited.site → (v : Value) → value_of b (values_in objects) ≡ Some v → FitsAt p objects b.target v → IsPrepared p objects number target sources b v
    prepared sound plain v has fits =
        let at : FitsAt p objects (property_of target may.sited.site.property) v = subst (λ (z : Binding). FitsAt p objects z.target v) is fits in
        let fit : IsFit p objects (new_binding may) = record {
          value = v;
          is = ap (λ (z : Binding). value_of z (values_in objects)) (sym is) ∙ has;
          typed = at;
          plain = plain-at p sound objects may.sited.site plain target v may.sited.covers.of_target at;
        } in
        record { may = may; is = is; fit = subst (IsFit p objects) (sym is) fit; has = has }

  -- an error that a `?` hands on
  pub prepares-err : (fault : BindFault) (r : Result PreparedBinding BindFault) → IsErrAnd r (λ f. f ≡ fault) → ((bs : List Binding) → IsNotBound p objects bs number target sources fault) → Prepares p number target sources objects r
  prepares-err fault (Ok found) is why = absurd is
  prepares-err fault (Err f) is why = λ bs. subst (λ (g : BindFault). IsNotBound p objects bs number target sources g) (sym is) (why bs)

  -- .. and the two parts of `bind` together
  not-installed : (bs : List Binding) (b : Binding) (v : Value) (fault : BindFault) → IsPrepared p objects number target sources b v → IsNotInstalled bs b fault → IsNotBound p objects bs number target sources fault
  not-installed bs b v fault made (loops chain) = closes made.may (subst (IsFit p objects) made.is made.fit) (subst (λ (z : Binding). Loop (binding_at (replaced bs z))) made.is chain)
  not-installed bs b v fault made short = no_memory

  pub binds-both : (bs : List Binding) (b : Binding) (v : Value) (r : Result PlannedBind BindFault) → IsPrepared p objects number target sources b v → Installs b bs objects r → PlansBind p number target sources bs objects r
  binds-both bs b v (Ok plan) made done = record {
    bound = record {
      may = made.may;
      fit = subst (IsFit p objects) made.is made.fit;
      installs = subst (λ (z : Binding). IsInstalled bs (replaced bs plan.reader) objects (after plan.planned objects) z plan.planned.changed) made.is done.installs;
      acyclic = done.acyclic;
    };
    binding = done.binding ∙ made.is;
  }
  binds-both bs b v (Err fault) made why = not-installed bs b v fault made why
