-- What expressions name, and that their values depend on that alone.
use Rattle.std.{proofs.Common.{◌≡◌, ◌≤◌, ℕ, zero, suc, length, arith, append_assoc, Bool, true, false, ◌||◌, List, [], ◌∷◌, ◌++◌, inl, inr, filter_map, Option, Some, None, refl, ap, sym, ◌∙◌, subst}, specs.List.{list_any}, specs.Prelude.{slice_get}, specs.Option.{option_and_then, option_map}, proofs.lemmas.List.{append-nil}, proofs.lemmas.Bool.{false≢true, cases_Bool, or_parts}}
use Rattle.basic_types.specs.declared.value.Value.{Value}
use Rattle.syntax_trees.specs.{declared.syntax.Unary.{Unary}, declared.syntax.Binary.{Binary}, declared.syntax.Expr.{Expr}, declared.syntax.Expr.TheViews.{roll-Expr}, declared.syntax.Expr.TheFolds.{fold-roll-Expr, ind-Expr, map-Expr}}
use Rattle.syntax_trees.specs.declared.syntax.Expr.TheVariants as e
use Rattle.syntax_trees.specs.declared.syntax.Expr.TheOpen as layer
use Rattle.expressions.specs.{Operators.{unary, binary}, Evaluation.{value, value_step}}
use Rattle.meta_model.specs.declared.site.SourceProperty.{SourceProperty}
use Rattle.binding_graph.{specs.declared.place.Place.{Place}, specs.declared.binding.Binding.{Binding}, specs.Places.{is_in, In, property_of}, specs.Bindings.{named_in, named_step, source_place, read_by, Reads, reads_any, value_of}, proofs.Places.{is_in-true, is_in-false}}

-- ---- the names in an expression, from those in its parts
pub named-Literal : (v : Value) → named_in (e.Literal v) ≡ []
named-Literal v = ap named_in (sym (e.rolls-Literal v)) ∙ fold-roll-Expr SourceProperty (List SourceProperty) named_step (layer.Literal v)

pub named-Path : (s : SourceProperty) → named_in (e.Path s) ≡ s ∷ []
named-Path s = ap named_in (sym (e.rolls-Path s)) ∙ fold-roll-Expr SourceProperty (List SourceProperty) named_step (layer.Path s)

pub named-Unary : (op : Unary) (z : Expr SourceProperty) → named_in (e.Unary op z) ≡ named_in z
named-Unary op z = ap named_in (sym (e.rolls-Unary op z)) ∙ fold-roll-Expr SourceProperty (List SourceProperty) named_step (layer.Unary op z)

pub named-Binary : (op : Binary) (x y : Expr SourceProperty) → named_in (e.Binary op x y) ≡ named_in x ++ named_in y
named-Binary op x y = ap named_in (sym (e.rolls-Binary op x y)) ∙ fold-roll-Expr SourceProperty (List SourceProperty) named_step (layer.Binary op x y)

pub filter_map-append : {A B : Type 0} (f : A → Option B) (xs ys : List A) → filter_map f (xs ++ ys) ≡ filter_map f xs ++ filter_map f ys
filter_map-append {A} {B} f [] ys = refl
filter_map-append {A} {B} f (x ∷ xs) ys = joined (f x) (filter_map-append f xs ys) refl
  where
    joined : (o : Option B) → filter_map f (xs ++ ys) ≡ filter_map f xs ++ filter_map f ys → f x ≡ o → filter_map f (x ∷ xs ++ ys) ≡ filter_map f (x ∷ xs) ++ filter_map f ys
    joined None is at = rw at is
    joined (Some y) is at = rw at (ap (λ zs. y ∷ zs) is)

past-none : (xs : List ℕ) (k : ℕ) → length xs ≤ k → slice_get xs k ≡ None
past-none [] k past = refl
past-none (x ∷ xs) zero past = absurd (omega (arith, past))
past-none (x ∷ xs) (suc k) past = past-none xs k (omega (arith, past))

-- a name of no source stands for no property
pub named-past : (sources : List ℕ) (s : SourceProperty) (xs : List Place) → length sources ≤ s.source → xs ≡ xs ++ filter_map (source_place sources) (s ∷ [])
named-past sources s xs past =
    let none : source_place sources s ≡ None = ap (option_map (λ o. property_of o s.property)) (past-none sources s.source past) in
    sym (append-nil xs) ∙ sym (ap (λ (ys : List Place). xs ++ ys) (one-none none))
  where
    one-none : source_place sources s ≡ None → filter_map (source_place sources) (s ∷ []) ≡ []
    one-none is = rw is refl

pub named-append : (sources : List ℕ) (xs ys : List SourceProperty) → filter_map (source_place sources) (xs ++ ys) ≡ filter_map (source_place sources) xs ++ filter_map (source_place sources) ys
named-append sources xs ys = filter_map-append (source_place sources) xs ys

pub ruleset named_equations = (named-Literal, named-Path, named-Unary, named-Binary, named-append, append_assoc)

-- ---- which of some properties a binding reads
any-true : (ps qs : List Place) → list_any (is_in qs) ps ≡ true → (p : Place) × In p qs × In p ps
any-true [] qs h = absurd (false≢true h)
any-true (p ∷ ps) qs h = elim (cases_Bool (is_in qs p)) [
  | inl t ↦ (p, is_in-true qs p t, inl refl)
  | inr f ↦ let r = any-true ps qs (sym (ap (λ (b : Bool). b || list_any (is_in qs) ps) f) ∙ h) in (r.0, r.1, inr r.2)
]

any-false : (ps qs : List Place) → list_any (is_in qs) ps ≡ false → (p : Place) → In p qs → In p ps → ⊥
any-false [] qs h p i r = r
any-false (q ∷ ps) qs h p i (inl e) = is_in-false qs q (or_parts (is_in qs q) (list_any (is_in qs) ps) h).0 (subst (λ (y : Place). In y qs) (sym e) i)
any-false (q ∷ ps) qs h p i (inr r) = any-false ps qs (or_parts (is_in qs q) (list_any (is_in qs) ps) h).1 p i r

pub reads_any-true : (b : Binding) (qs : List Place) → reads_any b qs ≡ true → (p : Place) × In p qs × Reads b p
reads_any-true b qs h = any-true (read_by b) qs h

pub reads_any-false : (b : Binding) (qs : List Place) → reads_any b qs ≡ false → (p : Place) → In p qs → Reads b p → ⊥
reads_any-false b qs h = any-false (read_by b) qs h

-- ---- a value depends on what is read alone
In-front : (p : Place) (xs ys : List Place) → In p xs → In p (xs ++ ys)
In-front p [] ys h = absurd h
In-front p (x ∷ xs) ys (inl is) = inl is
In-front p (x ∷ xs) ys (inr h) = inr (In-front p xs ys h)

In-back : (p : Place) (xs ys : List Place) → In p ys → In p (xs ++ ys)
In-back p [] ys h = h
In-back p (x ∷ xs) ys h = inr (In-back p xs ys h)

module _ (sources : List ℕ) (a c : Place → Option Value) where
  abbrev from : (Place → Option Value) → SourceProperty → Option Value
  from env s = option_and_then env (source_place sources s)

  abbrev Same : Expr SourceProperty → Type 0
  Same z = ((q : Place) → In q (filter_map (source_place sources) (named_in z)) → a q ≡ c q) → value (from a) z ≡ value (from c) z

  one-agrees : (s : SourceProperty) (o : Option Place) → source_place sources s ≡ o → ((q : Place) → In q (filter_map (source_place sources) (s ∷ [])) → a q ≡ c q) → option_and_then a o ≡ option_and_then c o
  one-agrees s None is h = refl
  one-agrees s (Some q) is h = h q (rw is (inl refl))

  left-of : (xs ys : List SourceProperty) → ((q : Place) → In q (filter_map (source_place sources) (xs ++ ys)) → a q ≡ c q) → (q : Place) → In q (filter_map (source_place sources) xs) → a q ≡ c q
  left-of xs ys h q i = h q (subst (λ zs. In q zs) (sym (filter_map-append (source_place sources) xs ys)) (In-front q (filter_map (source_place sources) xs) (filter_map (source_place sources) ys) i))

  right-of : (xs ys : List SourceProperty) → ((q : Place) → In q (filter_map (source_place sources) (xs ++ ys)) → a q ≡ c q) → (q : Place) → In q (filter_map (source_place sources) ys) → a q ≡ c q
  right-of xs ys h q i = h q (subst (λ zs. In q zs) (sym (filter_map-append (source_place sources) xs ys)) (In-back q (filter_map (source_place sources) xs) (filter_map (source_place sources) ys) i))

  opened : (l : layer.Expr-F SourceProperty (Expr SourceProperty)) → (((q : Place) → In q (filter_map (source_place sources) (named_step (map-Expr SourceProperty (Expr SourceProperty) (List SourceProperty) named_in l))) → a q ≡ c q) → value_step (from a) (map-Expr SourceProperty (Expr SourceProperty) (Option Value) (value (from a)) l) ≡ value_step (from c) (map-Expr SourceProperty (Expr SourceProperty) (Option Value) (value (from c)) l)) → Same (roll-Expr SourceProperty l)
  opened l has h =
      fold-roll-Expr SourceProperty (Option Value) (value_step (from a)) l
      ∙ has (λ q i. h q (subst (λ ss. In q (filter_map (source_place sources) ss)) (sym (fold-roll-Expr SourceProperty (List SourceProperty) named_step l)) i))
      ∙ sym (fold-roll-Expr SourceProperty (Option Value) (value_step (from c)) l)

  same_layer : (y : layer.Expr-F SourceProperty ((z : Expr SourceProperty) × Same z)) → Same (roll-Expr SourceProperty (map-Expr SourceProperty ((z : Expr SourceProperty) × Same z) (Expr SourceProperty) (λ z. z.0) y))
  same_layer (layer.Literal v) = opened (layer.Literal v) (λ h. refl)
  same_layer (layer.Path s) = opened (layer.Path s) (λ h. one-agrees s (source_place sources s) refl h)
  same_layer (layer.Unary op x) = opened (layer.Unary op x.0) (λ h. ap (option_and_then (unary op)) (x.1 h))
  same_layer (layer.Binary op x y) = opened (layer.Binary op x.0 y.0) (λ h.
      let first = x.1 (left-of (named_in x.0) (named_in y.0) h) in
      let second = y.1 (right-of (named_in x.0) (named_in y.0) h) in
      ap (λ v. option_and_then (λ k. option_and_then (binary op k) (value (from a) y.0)) v) first
      ∙ ap (λ w. option_and_then (λ k. option_and_then (binary op k) w) (value (from c) x.0)) second)

  same_value : (z : Expr SourceProperty) → Same z
  same_value = ind-Expr SourceProperty Same (λ x y is. subst (λ l. Same (roll-Expr SourceProperty l)) is (same_layer y))

pub value-agree : (b : Binding) (a c : Place → Option Value) → ((q : Place) → Reads b q → a q ≡ c q) → value_of b a ≡ value_of b c
value-agree b a c h = same_value b.sources a c b.formula h
