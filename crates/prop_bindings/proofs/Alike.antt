-- Whether an expression has a value, and of what sort, is a matter of the sorts of what it reads.
use Rattle.std.{proofs.Common.{◌≡◌, ◌≢◌, ℕ, Bool, false, zero, suc, List, [], ◌∷◌, Option, None, Some, refl, ap, sym, ◌∙◌, subst}, specs.Prelude.{slice_get, pos}, specs.Option.{option_map, option_and_then}, proofs.lemmas.Option.{same_Some}}
use Rattle.basic_types.specs.{declared.value.Value.{Value}, Values.{number_has, truth_has, text_has, null_has, object_has}}
use Rattle.basic_types.specs.declared.value.Value.TheVariants as value
use Rattle.syntax_trees.specs.{declared.syntax.Unary.{Unary}, declared.syntax.Unary.TheVariants.{Not, Minus}, declared.syntax.Binary.{Binary}, declared.syntax.Binary.TheVariants.{Add, Subtract, Multiply, Less, AtMost, Greater, AtLeast, Equal, Different, And, Or}, declared.syntax.Expr.{Expr}, declared.syntax.Expr.TheViews.{roll-Expr}, declared.syntax.Expr.TheFolds.{fold-roll-Expr, ind-Expr, map-Expr}}
use Rattle.syntax_trees.specs.declared.syntax.Expr.TheOpen as layer
use Rattle.expressions.specs.{Operators.{unary, binary, equal}, Evaluation.{value as value_in, value_step}}
use Rattle.meta_model.specs.{declared.object.ValueType.{ValueType}, Loaded.{Loaded}, Values.{Has}}
use Rattle.meta_model.specs.declared.object.ValueType.TheVariants as type
use Rattle.object_tree.specs.{declared.object.Object.{Object}, Seen.{seen}, Typed.{ReadsAs, ReadAs}}

-- one value for each sort: numbers, truth values, texts, and references
abbrev pub sort_of : Value → Value
sort_of (value.Int n) = value.Int (pos 0)
sort_of (value.Bool b) = value.Bool false
sort_of (value.Text t) = value.Text []
sort_of (value.Ref r) = value.Ref None

abbrev sort_in : Option Value → Option Value
sort_in v = option_map sort_of v

-- both are of one sort, or there is neither
abbrev pub BothAlike : Option Value → Option Value → Type 0
BothAlike v w = option_map sort_of v ≡ option_map sort_of w

-- ---- operators
unary-sort : (op : Unary) (v : Value) → sort_in (unary op v) ≡ sort_in (unary op (sort_of v))
unary-sort Not (value.Int n) = refl
unary-sort Not (value.Bool b) = refl
unary-sort Not (value.Text t) = refl
unary-sort Not (value.Ref r) = refl
unary-sort Minus (value.Int n) = refl
unary-sort Minus (value.Bool b) = refl
unary-sort Minus (value.Text t) = refl
unary-sort Minus (value.Ref r) = refl

equal-sort : (f : Bool → Bool) (v w : Value) → sort_in (option_map (λ (b : Bool). value.Bool (f b)) (equal v w)) ≡ sort_in (option_map (λ (b : Bool). value.Bool (f b)) (equal (sort_of v) (sort_of w)))
equal-sort f (value.Int a) (value.Int b) = refl
equal-sort f (value.Int a) (value.Bool b) = refl
equal-sort f (value.Int a) (value.Text b) = refl
equal-sort f (value.Int a) (value.Ref b) = refl
equal-sort f (value.Bool a) (value.Int b) = refl
equal-sort f (value.Bool a) (value.Bool b) = refl
equal-sort f (value.Bool a) (value.Text b) = refl
equal-sort f (value.Bool a) (value.Ref b) = refl
equal-sort f (value.Text a) (value.Int b) = refl
equal-sort f (value.Text a) (value.Bool b) = refl
equal-sort f (value.Text a) (value.Text b) = refl
equal-sort f (value.Text a) (value.Ref b) = refl
equal-sort f (value.Ref a) (value.Int b) = refl
equal-sort f (value.Ref a) (value.Bool b) = refl
equal-sort f (value.Ref a) (value.Text b) = refl
equal-sort f (value.Ref a) (value.Ref b) = refl

binary-sort : (op : Binary) (v w : Value) → sort_in (binary op v w) ≡ sort_in (binary op (sort_of v) (sort_of w))
binary-sort Add (value.Int a) (value.Int b) = refl
binary-sort Add (value.Text a) (value.Text b) = refl
binary-sort Subtract (value.Int a) (value.Int b) = refl
binary-sort Multiply (value.Int a) (value.Int b) = refl
binary-sort Less (value.Int a) (value.Int b) = refl
binary-sort AtMost (value.Int a) (value.Int b) = refl
binary-sort Greater (value.Int a) (value.Int b) = refl
binary-sort AtLeast (value.Int a) (value.Int b) = refl
binary-sort Equal v w = equal-sort (λ b. b) v w
binary-sort Different v w = equal-sort _ v w
binary-sort And (value.Bool a) (value.Bool b) = refl
binary-sort Or (value.Bool a) (value.Bool b) = refl
binary-sort op v w = refl

unary-alike : (op : Unary) (v w : Value) → sort_of v ≡ sort_of w → BothAlike (unary op v) (unary op w)
unary-alike op v w h = unary-sort op v ∙ ap (λ (x : Value). sort_in (unary op x)) h ∙ sym (unary-sort op w)

binary-alike : (op : Binary) (v v' w w' : Value) → sort_of v ≡ sort_of v' → sort_of w ≡ sort_of w' → BothAlike (binary op v w) (binary op v' w')
binary-alike op v v' w w' h g =
    binary-sort op v w
    ∙ ap (λ (x : Value). sort_in (binary op x (sort_of w))) h ∙ ap (λ (x : Value). sort_in (binary op (sort_of v') x)) g
    ∙ sym (binary-sort op v' w')

-- ---- expressions
on-one : (op : Unary) (v w : Option Value) → BothAlike v w → BothAlike (option_and_then (unary op) v) (option_and_then (unary op) w)
on-one op None None h = refl
on-one op None (Some w) h = absurd (cc h)
on-one op (Some v) None h = absurd (cc h)
on-one op (Some v) (Some w) h = unary-alike op v w (same_Some (sort_of v) (sort_of w) h)

on-both : (op : Binary) (v v' w w' : Option Value) → BothAlike v v' → BothAlike w w' → BothAlike (option_and_then (λ a. option_and_then (binary op a) w) v) (option_and_then (λ a. option_and_then (binary op a) w') v')
on-both op None None w w' h g = refl
on-both op None (Some v') w w' h g = absurd (cc h)
on-both op (Some v) None w w' h g = absurd (cc h)
on-both op (Some v) (Some v') None None h g = refl
on-both op (Some v) (Some v') None (Some w') h g = absurd (cc g)
on-both op (Some v) (Some v') (Some w) None h g = absurd (cc g)
on-both op (Some v) (Some v') (Some w) (Some w') h g = binary-alike op v v' w w' (same_Some (sort_of v) (sort_of v') h) (same_Some (sort_of w) (sort_of w') g)

module _ {P : Type 0} (a c : P → Option Value) (alike : (p : P) → BothAlike (a p) (c p)) where
  abbrev HasAlike : Expr P → Type 0
  HasAlike z = BothAlike (value_in a z) (value_in c z)

  opened : (l : layer.Expr-F P (Expr P)) → BothAlike (value_step a (map-Expr P (Expr P) (Option Value) (value_in a) l)) (value_step c (map-Expr P (Expr P) (Option Value) (value_in c) l)) → HasAlike (roll-Expr P l)
  opened l has =
      ap sort_in (fold-roll-Expr P (Option Value) (value_step a) l) ∙ has
      ∙ sym (ap sort_in (fold-roll-Expr P (Option Value) (value_step c) l))

  alike_layer : (y : layer.Expr-F P ((z : Expr P) × HasAlike z)) → HasAlike (roll-Expr P (map-Expr P ((z : Expr P) × HasAlike z) (Expr P) (λ z. z.0) y))
  alike_layer (layer.Literal v) = opened (layer.Literal v) refl
  alike_layer (layer.Path p) = opened (layer.Path p) (alike p)
  alike_layer (layer.Unary op x) = opened (layer.Unary op x.0) (on-one op (value_in a x.0) (value_in c x.0) x.1)
  alike_layer (layer.Binary op x y) = opened (layer.Binary op x.0 y.0) (on-both op (value_in a x.0) (value_in c x.0) (value_in a y.0) (value_in c y.0) x.1 y.1)

  -- where what is read has the same sorts, so has the value
  pub values-alike : (z : Expr P) → BothAlike (value_in a z) (value_in c z)
  values-alike = ind-Expr P HasAlike (λ x y is. subst (λ l. HasAlike (roll-Expr P l)) is (alike_layer y))

-- ---- values of one type
abbrev pub sort_for : ValueType → Value
sort_for type.Int = value.Int (pos 0)
sort_for type.Bool = value.Bool false
sort_for type.Text = value.Text []
sort_for (type.Reference c constant) = value.Ref None

has-sort : (p : Loaded) (class : ℕ → Option ℕ) (v : Value) (kind : ValueType) → Has p class v kind → sort_of v ≡ sort_for kind
has-sort p class v kind number_has = refl
has-sort p class v kind truth_has = refl
has-sort p class v kind text_has = refl
has-sort p class v kind null_has = refl
has-sort p class v kind (object_has is below) = refl

seen-sort : (objects : List Object) (v : Value) → sort_of (seen objects v) ≡ sort_of v
seen-sort objects (value.Int n) = refl
seen-sort objects (value.Bool b) = refl
seen-sort objects (value.Text t) = refl
seen-sort objects (value.Ref r) = refl

pub reads-sort : (p : Loaded) (objects : List Object) (v : Value) (kind : ValueType) → ReadsAs p objects v kind → sort_of v ≡ sort_for kind
reads-sort p objects v kind h = sym (seen-sort objects v) ∙ has-sort p _ (seen objects v) kind h

-- values of the same types are alike, place by place
pub lists-alike : (p : Loaded) (old new : List Object) (vs ws : List Value) (types : List ValueType) → ReadAs p old vs types → ReadAs p new ws types → (q : ℕ) → BothAlike (slice_get vs q) (slice_get ws q)
lists-alike p old new [] [] [] h g q = refl
lists-alike p old new [] (w ∷ ws) [] h g q = absurd g
lists-alike p old new (v ∷ vs) ws [] h g q = absurd h
lists-alike p old new [] ws (k ∷ types) h g q = absurd h
lists-alike p old new (v ∷ vs) [] (k ∷ types) h g q = absurd g
lists-alike p old new (v ∷ vs) (w ∷ ws) (k ∷ types) h g zero = ap Some (reads-sort p old v k h.0 ∙ sym (reads-sort p new w k g.0))
lists-alike p old new (v ∷ vs) (w ∷ ws) (k ∷ types) h g (suc q) = lists-alike p old new vs ws types h.1 g.1 q

-- a value of a value type is of it by its sort
pub plain-has : (p : Loaded) (objects : List Object) (v : Value) (kind : ValueType) → ((class : ℕ) (constant : Bool) → kind ≢ type.Reference class constant) → sort_of v ≡ sort_for kind → ReadsAs p objects v kind
plain-has p objects (value.Int n) type.Int plain h = number_has
plain-has p objects (value.Bool b) type.Bool plain h = truth_has
plain-has p objects (value.Text t) type.Text plain h = text_has
plain-has p objects v (type.Reference c constant) plain h = absurd (plain c constant refl)
plain-has p objects (value.Int n) type.Bool plain h = absurd (cc h)
plain-has p objects (value.Int n) type.Text plain h = absurd (cc h)
plain-has p objects (value.Bool b) type.Int plain h = absurd (cc h)
plain-has p objects (value.Bool b) type.Text plain h = absurd (cc h)
plain-has p objects (value.Text t) type.Int plain h = absurd (cc h)
plain-has p objects (value.Text t) type.Bool plain h = absurd (cc h)
plain-has p objects (value.Ref r) type.Int plain h = absurd (cc h)
plain-has p objects (value.Ref r) type.Bool plain h = absurd (cc h)
plain-has p objects (value.Ref r) type.Text plain h = absurd (cc h)
