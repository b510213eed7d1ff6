-- A typed expression has a value, of the type of what it is given to: from the types by name to those by number.
use Rattle.std.{proofs.Common.{◌≡◌, ℕ, suc, ◌-◌, arith, Bool, List, [], ◌∷◌, length, slice_get, Option, None, Some, refl, sym, ap, ◌∙◌, subst}, specs.List.{AllZip}, specs.Option.{option_and_then, option_map}, proofs.lemmas.Option.{none-some, same_Some}}
use Rattle.basic_types.specs.{declared.value.Value.{Value}, declared.qtype.QType.{QType}, Normal.{pointer_type}, Types.{value_type, int_name, bool_name, text_name}, Values.{Has as AnyHas, number_has, truth_has, text_has, null_has, object_has}}
use Rattle.basic_types.specs.declared.value.Value.TheVariants as value
use Rattle.syntax_trees.specs.{declared.syntax.Expr.{Expr}, declared.syntax.Expr.TheViews.{out-Expr, roll-Expr, roll-out-Expr}}
use Rattle.syntax_trees.specs.declared.syntax.Expr.TheVariants as whole
use Rattle.syntax_trees.specs.declared.syntax.Expr.TheOpen as expr
use Rattle.expressions.specs.declared.sort.Sort.TheVariants as sort
use Rattle.expressions.{specs.declared.typing.ExprType.{ExprType}, specs.declared.typing.ExprType.TheVariants.{Of}, specs.Evaluation.{value as value_of, values}, specs.Typing.{value_sort, declared_sort, declared_types, type_of, HasValueOf as NamedValueOf}, proofs.Evaluating.{value-Literal, value-Path, value-Unary, value-Binary}, proofs.Typed.{type_of-Literal, type_of-Path, type_of-Unary, type_of-Binary, literal_typed, path_typed, unary_typed, binary_typed, typed_has_value, accepted_has}}
use Rattle.meta_model.{specs.declared.object.ValueType.{ValueType}, specs.declared.object.MetaRoot.{MetaRoot}, specs.declared.object.Step.{Step}, specs.declared.object.MetaPath.{MetaPath}, specs.declared.object.MetaObject.{MetaObject}, specs.declared.object.MetaProperty.{MetaProperty}, specs.declared.site.SourceProperty.{SourceProperty}, specs.declared.site.MetaSite.{MetaSite}, specs.Loaded.{Loaded}, specs.Members.{IsClassNamed, IsProperty, Below, same, under}, specs.Sound.{IsSound, HasRoot, this_has, parameter_has, Leads, here, on, LeadsTo, IsSoundExpr, literal_sound, path_sound, unary_sound, binary_sound, AreSoundExprs}, specs.Values.{Has, HaveTypes}, proofs.OneAnswer.{one_class}}
use Rattle.meta_model.specs.declared.object.ValueType.TheVariants as type
use Rattle.type_check.{specs.Naming.{IsTheClass, BelowNamed, spelled}, specs.Along.{along}, specs.Accepting.{Takes, spelled_types}, specs.Bodies.{kind_of_root, kind_after, kind_of_path, IsGivenIn}, specs.Typed.{kind_of_source, IsTypedSite}, specs.Laws.{HasValueOf, PathsAreTyped, SourcesAreTyped}, proofs.Methods.{based}, proofs.Properties.{same_property}}

rolled : {P : Type 0} (x : Expr P) (l : expr.Expr-F P (Expr P)) → out-Expr P x ≡ l → x ≡ roll-Expr P l
rolled {P} x l is = sym (roll-out-Expr P x) ∙ ap (λ y. roll-Expr P y) is

-- ---- types by name
spelled_at : (found : Option MetaObject) (constant : Bool) (Q : QType) → option_map (λ (class : MetaObject). pointer_type class.name constant) found ≡ Some Q
    → (class : MetaObject) × (found ≡ Some class) × (pointer_type class.name constant ≡ Q)
spelled_at None constant Q e = absurd (none-some Q e)
spelled_at (Some class) constant Q e = (class, refl, same_Some _ _ e)

-- the sort of a value of a type
has_sort : {class : ℕ → Option (List ℕ)} {below : List ℕ → List ℕ → Type 0} (v : Value) (Q : QType) → AnyHas declared_types class below v Q → declared_sort Q ≡ Some (value_sort v)
has_sort v Q number_has = refl
has_sort v Q truth_has = refl
has_sort v Q text_has = refl
has_sort v Q null_has = refl
has_sort v Q (object_has is own) = refl

-- the class of an object of a type
object_of : (class : ℕ → Option (List ℕ)) (below : List ℕ → List ℕ → Type 0) (o : ℕ) (Q : QType) → AnyHas declared_types class below (value.Ref (Some o)) Q → (d : List ℕ) × (class o ≡ Some d) × below d Q.name
object_of class below o Q (object_has {d = d} is own) = (d, is, own)

named_at : (p : Loaded) (found : Option ℕ) (name : List ℕ) → option_and_then (λ c. option_map (λ (class : MetaObject). class.name) (slice_get p.classes c)) found ≡ Some name
    → (c : ℕ) × (class : MetaObject) × (found ≡ Some c) × (slice_get p.classes c ≡ Some class) × (class.name ≡ name)
named_at p None name e = absurd (none-some name e)
named_at p (Some c) name e = let at = at_class (slice_get p.classes c) e in (c, at.0, refl, at.1, at.2)
  where
    at_class : (found : Option MetaObject) → option_map (λ (class : MetaObject). class.name) found ≡ Some name → (class : MetaObject) × (found ≡ Some class) × (class.name ≡ name)
    at_class None e = absurd (none-some name e)
    at_class (Some class) e = (class, refl, same_Some _ _ e)

module _ (p : Loaded) (sound : IsSound p) (classes : ℕ → Option ℕ) where
  below_is : (c d : ℕ) → Below p c d → (class : MetaObject) × (slice_get p.classes c ≡ Some class)
  below_is c d (same {class = class} is) = (class, is.is)
  below_is c d (under {b = b} e rest) = let found = based (slice_get p.classes c) b e in (found.0, found.1)

  named_class : (c : ℕ) (class : MetaObject) (name : List ℕ) → slice_get p.classes c ≡ Some class → class.name ≡ name → IsClassNamed p name c
  named_class c class name at e = record { class = class; is = record { is = at }; named = e }

  the_class : (c : ℕ) (class : MetaObject) → slice_get p.classes c ≡ Some class → IsTheClass p class.name c
  the_class c class at =
      let own = named_class c class class.name at refl in
      record { named = own; only = λ d other. one_class p sound class.name c d own other }

  -- the names of the classes of the living objects
  abbrev names : ℕ → Option (List ℕ)
  names o = option_and_then (λ c. option_map (λ (class : MetaObject). class.name) (slice_get p.classes c)) (classes o)

  abbrev Named : Value → QType → Type 0
  Named v Q = AnyHas declared_types names (BelowNamed p) v Q

  to_named : (v : Value) (T : ValueType) (Q : QType) → Has p classes v T → spelled p T ≡ Some Q → Named v Q
  to_named v T Q (number_has {n = n}) e = subst (λ (t : QType). Named (value.Int n) t) (same_Some _ _ e) number_has
  to_named v T Q (truth_has {b = b}) e = subst (λ (t : QType). Named (value.Bool b) t) (same_Some _ _ e) truth_has
  to_named v T Q (text_has {t = s}) e = subst (λ (t : QType). Named (value.Text s) t) (same_Some _ _ e) text_has
  to_named v T Q (null_has {c = c} {constant = k}) e =
      let s = spelled_at (slice_get p.classes c) k Q e in subst (λ (t : QType). Named (value.Ref None) t) s.2 null_has
  to_named v T Q (object_has {o = o} {c = c} {d = d} {constant = k} is own) e =
      let s = spelled_at (slice_get p.classes c) k Q e in
      let lower = below_is d c own in
      let at : names o ≡ Some lower.0.name =
      ap (option_and_then (λ (n : ℕ). option_map (λ (class : MetaObject). class.name) (slice_get p.classes n))) is ∙ ap (option_map (λ (class : MetaObject). class.name)) lower.1 in
      let between : BelowNamed p lower.0.name s.0.name =
      record { class = d; is_class = the_class d lower.0 lower.1; base = c; is_base = the_class c s.0 s.1; below = own } in
      subst (λ (t : QType). Named (value.Ref (Some o)) t) s.2 (object_has at between)

  of_number : (v : Value) → sort.Int ≡ value_sort v → Has p classes v type.Int
  of_number (value.Int n) e = number_has
  of_number (value.Bool b) e = cc
  of_number (value.Text s) e = cc
  of_number (value.Ref r) e = cc

  of_truth : (v : Value) → sort.Bool ≡ value_sort v → Has p classes v type.Bool
  of_truth (value.Int n) e = cc
  of_truth (value.Bool b) e = truth_has
  of_truth (value.Text s) e = cc
  of_truth (value.Ref r) e = cc

  of_text : (v : Value) → sort.Text ≡ value_sort v → Has p classes v type.Text
  of_text (value.Int n) e = cc
  of_text (value.Bool b) e = cc
  of_text (value.Text s) e = text_has
  of_text (value.Ref r) e = cc

  of_reference : (v : Value) (c : ℕ) (k : Bool) (class : MetaObject) → slice_get p.classes c ≡ Some class → Named v (pointer_type class.name k) → sort.Reference ≡ value_sort v → Has p classes v (type.Reference c k)
  of_reference (value.Int n) c k class at has e = cc
  of_reference (value.Bool b) c k class at has e = cc
  of_reference (value.Text s) c k class at has e = cc
  of_reference (value.Ref None) c k class at has e = null_has
  of_reference (value.Ref (Some o)) c k class at has e =
      let own = object_of names (BelowNamed p) o (pointer_type class.name k) has in
      let at_own = named_at p (classes o) own.0 own.1 in
      let between = own.2 in
      let lower : at_own.0 ≡ between.class = between.is_class.only at_own.0 (named_class at_own.0 at_own.1 own.0 at_own.3 at_own.4) in
      let upper : c ≡ between.base = between.is_base.only c (named_class c class class.name at refl) in
      object_has at_own.2 (subst (λ (n : ℕ). Below p n c) (sym lower) (subst (λ (n : ℕ). Below p between.class n) (sym upper) between.below))

  from_named : (v : Value) (T : ValueType) (Q : QType) → Named v Q → spelled p T ≡ Some Q → Has p classes v T
  from_named v type.Int Q has e = of_number v (same_Some _ _ (ap declared_sort (same_Some (value_type int_name) Q e) ∙ has_sort v Q has))
  from_named v type.Bool Q has e = of_truth v (same_Some _ _ (ap declared_sort (same_Some (value_type bool_name) Q e) ∙ has_sort v Q has))
  from_named v type.Text Q has e = of_text v (same_Some _ _ (ap declared_sort (same_Some (value_type text_name) Q e) ∙ has_sort v Q has))
  from_named v (type.Reference c k) Q has e =
      let s = spelled_at (slice_get p.classes c) k Q e in
      of_reference v c k s.0 s.1 (subst (λ (t : QType). Named v t) (sym s.2) has) (same_Some _ _ (ap declared_sort s.2 ∙ has_sort v Q has))

  -- ---- what an expression is given to
  abbrev Valued : ExprType → Option Value → Type 0
  Valued t found = NamedValueOf names (BelowNamed p) t found

  given_has : (T : ValueType) (kind : Option ExprType) (found : Option Value) → Takes p T kind → ((t : ExprType) → kind ≡ Some t → Valued t found) → HasValueOf p classes T found
  given_has T kind found takes has =
      let h = has takes.given takes.is in
      let of = accepted_has (BelowNamed p) (along p) takes.declared takes.given takes.accepts names h.0 h.2 in
      (h.0, h.1, from_named h.0 T takes.declared of takes.named)

  path_has : (kind : Option ValueType) (found : Option Value) (t : QType) → option_and_then (spelled p) kind ≡ Some t → ((T : ValueType) → kind ≡ Some T → HasValueOf p classes T found) → Valued (Of t) found
  path_has None found t e has = absurd (none-some t e)
  path_has (Some T) found t e has = let h = has T refl in (h.0, h.1, to_named h.0 T t h.2 e)

  -- ---- binding sites
  pub site_has : (site : MetaSite) (read : SourceProperty → Option Value) → SourcesAreTyped p classes site.formals read → IsTypedSite p site
      → (property : MetaProperty) → IsProperty p site.class site.property property → HasValueOf p classes property.kind (value_of read site.formula)
  site_has site read sources typed property is =
      let types = kind_of_source p site.formals in
      let one : typed.property ≡ property = same_property p site.class site.property is.class property typed.property is.is_class.is is.is typed.is in
      let h = given_has typed.property.kind (type_of (spelled_types p types) site.formula) (value_of read site.formula) typed.given
      (typed_has_value names (BelowNamed p) read (spelled_types p types) (λ s t e. path_has (types s) (read s) t e (sources s)) site.formula) in
      subst (λ (x : MetaProperty). HasValueOf p classes x.kind (value_of read site.formula)) one h

  -- ---- bodies
  module _ (me : ℕ) (types : List ValueType) where
    root_kind : (root : MetaRoot) (T : ValueType) → HasRoot me types root T → kind_of_root me types root ≡ Some T
    root_kind root T this_has = refl
    root_kind root T (parameter_has at) = at

    last_kind : {T U : ValueType} (s : Step) (steps : List Step) → Leads p T (s ∷ steps) U → (last : Step) × (slice_get (s ∷ steps) (length steps) ≡ Some last) × (last.kind ≡ U)
    last_kind s [] (on is e here) = (s, refl, refl)
    last_kind s (t ∷ ts) (on is e rest) = last_kind t ts rest

    steps_kind : (root : MetaRoot) (steps : List Step) (T U : ValueType) → HasRoot me types root T → Leads p T steps U → kind_after me types root (slice_get steps (length steps - 1)) ≡ Some U
    steps_kind root [] T U has here = root_kind root T has
    steps_kind root (s ∷ steps) T U has leads =
        let last = last_kind s steps leads in
        let at : slice_get (s ∷ steps) (suc (length steps) - 1) ≡ Some last.0 = ap (slice_get (s ∷ steps)) (omega arith) ∙ last.1 in
        ap (kind_after me types root) at ∙ ap (λ (w : ValueType). Some w) last.2

    leads_kind : (path : MetaPath) (T : ValueType) → LeadsTo p me types path T → kind_of_path me types path ≡ Some T
    leads_kind path T leads = steps_kind path.root path.steps leads.root_type T leads.root leads.steps

    module _ (read : MetaPath → Option Value) (paths : PathsAreTyped p classes me types read) where
      abbrev declared : MetaPath → Option QType
      declared = spelled_types p (kind_of_path me types)

      sound_path : (path : MetaPath) (T : ValueType) → LeadsTo p me types path T → (t : QType) → declared path ≡ Some t → Valued (Of t) (read path)
      sound_path path T leads t e =
          path_has (kind_of_path me types path) (read path) t e
          (λ U is. subst (λ (w : ValueType). HasValueOf p classes w (read path)) (same_Some _ _ (sym (leads_kind path T leads) ∙ is)) (paths path T leads))

      sound_has : (x : Expr MetaPath) → IsSoundExpr p me types x → (t : ExprType) → type_of declared x ≡ Some t → Valued t (value_of read x)
      sound_has x (literal_sound {v = v} at none) t is =
          let w = rolled x (expr.Literal v) at ∙ whole.rolls-Literal v in
          (v, ap (value_of read) w ∙ value-Literal read v, literal_typed names (BelowNamed p) v t (sym (ap (type_of declared) w ∙ type_of-Literal declared v) ∙ is))
      sound_has x (path_sound {path = path} {T = T} at leads) t is =
          let w = rolled x (expr.Path path) at ∙ whole.rolls-Path path in
          subst (λ (found : Option Value). Valued t found) (sym (ap (value_of read) w ∙ value-Path read path))
          (path_typed names (BelowNamed p) (read path) (declared path) t (sound_path path T leads) (sym (ap (type_of declared) w ∙ type_of-Path declared path) ∙ is))
      sound_has x (unary_sound {op = op} {a = a} at part) t is =
          let w = rolled x (expr.Unary op a) at ∙ whole.rolls-Unary op a in
          subst (λ (found : Option Value). Valued t found) (sym (ap (value_of read) w ∙ value-Unary read op a))
          (unary_typed names (BelowNamed p) op (value_of read a) (type_of declared a) t (sound_has a part) (sym (ap (type_of declared) w ∙ type_of-Unary declared op a) ∙ is))
      sound_has x (binary_sound {op = op} {a = a} {b = b} at left right) t is =
          let w = rolled x (expr.Binary op a b) at ∙ whole.rolls-Binary op a b in
          subst (λ (found : Option Value). Valued t found) (sym (ap (value_of read) w ∙ value-Binary read op a b))
          (binary_typed names (BelowNamed p) op (value_of read a) (value_of read b) (type_of declared a) (type_of declared b) t (sound_has a left) (sound_has b right) (sym (ap (type_of declared) w ∙ type_of-Binary declared op a b) ∙ is))

      pub body_has : (T : ValueType) (x : Expr MetaPath) → IsSoundExpr p me types x → IsGivenIn p me types T x → HasValueOf p classes T (value_of read x)
      body_has T x is given = given_has T (type_of declared x) (value_of read x) given (sound_has x is)

      pub arguments_have : (Ts : List ValueType) (xs : List (Expr MetaPath)) → AreSoundExprs p me types xs → AllZip (IsGivenIn p me types) Ts xs
          → (vs : List Value) × (values read xs ≡ Some vs) × HaveTypes p classes vs Ts
      arguments_have [] [] are given = ([], refl, tt)
      arguments_have [] (x ∷ xs) are given = absurd given
      arguments_have (T ∷ Ts) [] are given = absurd given
      arguments_have (T ∷ Ts) (x ∷ xs) are given =
          let h = body_has T x are.0 given.0 in
          let rest = arguments_have Ts xs are.1 given.1 in
          let at : values read (x ∷ xs) ≡ Some (h.0 ∷ rest.0) =
          ap (option_and_then (λ (v : Value). option_map (λ (vs : List Value). v ∷ vs) (values read xs))) h.1 ∙ ap (option_map (λ (vs : List Value). h.0 ∷ vs)) rest.1 in
          (h.0 ∷ rest.0, at, (h.2, rest.2))
