-- The type of an expression from those of its parts, and its value.
use Rattle.std.{proofs.Common.{◌≡◌, ℕ, not, true, List, inl, inr, Option, Some, None, ap, sym, ◌∙◌, subst, refl}, specs.Option.{option_and_then, option_map}, specs.Prelude.{neg_ℤ}, specs.Int.{saturate_signed, w32}, proofs.lemmas.Option.{same_Some}, proofs.lemmas.Bool.{false≢true}}
use Rattle.basic_types.specs.{declared.value.Value.{Value}, declared.qtype.QType.{QType}, Normal.{pointer_type}, Values.{Has, number_has, truth_has, text_has, null_has, object_has}}
use Rattle.basic_types.specs.declared.value.Value.TheVariants as value
use Rattle.syntax_trees.specs.{declared.syntax.Unary.{Unary}, declared.syntax.Unary.TheVariants.{Not, Minus}, declared.syntax.Binary.{Binary}, declared.syntax.Binary.TheVariants.{Add, Subtract, Multiply, Less, AtMost, Greater, AtLeast, Equal, Different, And, Or}, declared.syntax.Expr.{Expr}, declared.syntax.Expr.TheViews.{roll-Expr}, declared.syntax.Expr.TheFolds.{fold-roll-Expr, ind-Expr, map-Expr}}
use Rattle.syntax_trees.specs.declared.syntax.Expr.TheVariants as e
use Rattle.syntax_trees.specs.declared.syntax.Expr.TheOpen as layer
use Rattle.expressions.specs.{declared.sort.Sort.{Sort}, declared.typing.ExprType.{ExprType}, declared.typing.ExprType.TheVariants.{Null, Of}, Operators.{unary, binary}, Evaluation.{value, value_step}, Typing.{value_sort, sort_of, declared_sort, type_of_sort, unary_sort, binary_sort, literal_type, type_step, type_of, declared_types, IsOf, HasValueOf, TypedPaths, Accepts, TakesValues}}
use Rattle.expressions.specs.declared.sort.Sort.TheVariants as sort

pub type_of-Literal : {P : Type 0} (types : P → Option QType) (v : Value) → type_of types (e.Literal v) ≡ literal_type v
type_of-Literal {P} types v = ap (type_of types) (sym (e.rolls-Literal v)) ∙ fold-roll-Expr P (Option ExprType) (type_step types) (layer.Literal v)

pub type_of-Path : {P : Type 0} (types : P → Option QType) (p : P) → type_of types (e.Path p) ≡ option_map (λ t. Of t) (types p)
type_of-Path {P} types p = ap (type_of types) (sym (e.rolls-Path p)) ∙ fold-roll-Expr P (Option ExprType) (type_step types) (layer.Path p)

pub type_of-Unary : {P : Type 0} (types : P → Option QType) (op : Unary) (z : Expr P) → type_of types (e.Unary op z) ≡ option_map type_of_sort (option_and_then (unary_sort op) (option_and_then sort_of (type_of types z)))
type_of-Unary {P} types op z = ap (type_of types) (sym (e.rolls-Unary op z)) ∙ fold-roll-Expr P (Option ExprType) (type_step types) (layer.Unary op z)

pub type_of-Binary : {P : Type 0} (types : P → Option QType) (op : Binary) (x y : Expr P) → type_of types (e.Binary op x y) ≡ option_map type_of_sort (option_and_then (λ a. option_and_then (binary_sort op a) (option_and_then sort_of (type_of types y))) (option_and_then sort_of (type_of types x)))
type_of-Binary {P} types op x y = ap (type_of types) (sym (e.rolls-Binary op x y)) ∙ fold-roll-Expr P (Option ExprType) (type_step types) (layer.Binary op x y)

pub ruleset type_equations = (type_of-Literal, type_of-Path, type_of-Unary, type_of-Binary)

one_sort : (f : Sort → Option Sort) (o : Option Sort) (t : ExprType) → option_map type_of_sort (option_and_then f o) ≡ Some t → (s : Sort) × (o ≡ Some s) × (option_map type_of_sort (f s) ≡ Some t)
one_sort f None t is = cc
one_sort f (Some s) t is = (s, refl, is)

two_sorts : (f : Sort → Sort → Option Sort) (o r : Option Sort) (t : ExprType) → option_map type_of_sort (option_and_then (λ a. option_and_then (f a) r) o) ≡ Some t → (s : Sort) × (u : Sort) × (o ≡ Some s) × (r ≡ Some u) × (option_map type_of_sort (f s u) ≡ Some t)
two_sorts f None r t is = cc
two_sorts f (Some s) None t is = cc
two_sorts f (Some s) (Some u) t is = (s, u, refl, refl, is)

-- for the classes of the living objects
module _ (class : ℕ → Option (List ℕ)) (below : List ℕ → List ℕ → Type 0) where
  -- the value of a part that has a type
  declared_has : (v : Value) (t : QType) → Has declared_types class below v t → declared_sort t ≡ Some (value_sort v)
  declared_has v t number_has = refl
  declared_has v t truth_has = refl
  declared_has v t text_has = refl
  declared_has v t null_has = refl
  declared_has v t (object_has is own) = refl

  has_sort : (v : Value) (t : ExprType) → IsOf class below v t → sort_of t ≡ Some (value_sort v)
  has_sort v Null is = ap (λ w. Some (value_sort w)) (sym is)
  has_sort v (Of t) is = declared_has v t is

  unary_has : (op : Unary) (v : Value) (t : ExprType) → option_map type_of_sort (unary_sort op (value_sort v)) ≡ Some t → HasValueOf class below t (unary op v)
  unary_has Not (value.Bool b) t is = subst (λ s. HasValueOf class below s (unary Not (value.Bool b))) (same_Some (type_of_sort sort.Bool) t is) (value.Bool (not b), refl, truth_has)
  unary_has Minus (value.Int z) t is = subst (λ s. HasValueOf class below s (unary Minus (value.Int z))) (same_Some (type_of_sort sort.Int) t is) (value.Int (saturate_signed w32 (neg_ℤ z)), refl, number_has)
  unary_has Not (value.Int z) t is = cc
  unary_has Not (value.Text s) t is = cc
  unary_has Not (value.Ref r) t is = cc
  unary_has Minus (value.Bool b) t is = cc
  unary_has Minus (value.Text s) t is = cc
  unary_has Minus (value.Ref r) t is = cc

  -- an answer of a sort is of its type
  given : (s : Sort) (t : ExprType) (v : Value) (o : Option Value) → o ≡ Some v → IsOf class below v (type_of_sort s) → option_map type_of_sort (Some s) ≡ Some t → HasValueOf class below t o
  given s t v o found of is = subst (λ u. HasValueOf class below u o) (same_Some (type_of_sort s) t is) (v, found, of)

  binary_has : (op : Binary) (v w : Value) (t : ExprType) → option_map type_of_sort (binary_sort op (value_sort v) (value_sort w)) ≡ Some t → HasValueOf class below t (binary op v w)
  binary_has Add (value.Int a) (value.Int b) t is = given sort.Int t _ (binary Add (value.Int a) (value.Int b)) refl number_has is
  binary_has Add (value.Text a) (value.Text b) t is = given sort.Text t _ (binary Add (value.Text a) (value.Text b)) refl text_has is
  binary_has Subtract (value.Int a) (value.Int b) t is = given sort.Int t _ (binary Subtract (value.Int a) (value.Int b)) refl number_has is
  binary_has Multiply (value.Int a) (value.Int b) t is = given sort.Int t _ (binary Multiply (value.Int a) (value.Int b)) refl number_has is
  binary_has Less (value.Int a) (value.Int b) t is = given sort.Bool t _ (binary Less (value.Int a) (value.Int b)) refl truth_has is
  binary_has AtMost (value.Int a) (value.Int b) t is = given sort.Bool t _ (binary AtMost (value.Int a) (value.Int b)) refl truth_has is
  binary_has Greater (value.Int a) (value.Int b) t is = given sort.Bool t _ (binary Greater (value.Int a) (value.Int b)) refl truth_has is
  binary_has AtLeast (value.Int a) (value.Int b) t is = given sort.Bool t _ (binary AtLeast (value.Int a) (value.Int b)) refl truth_has is
  binary_has Equal (value.Int a) (value.Int b) t is = given sort.Bool t _ (binary Equal (value.Int a) (value.Int b)) refl truth_has is
  binary_has Equal (value.Bool a) (value.Bool b) t is = given sort.Bool t _ (binary Equal (value.Bool a) (value.Bool b)) refl truth_has is
  binary_has Equal (value.Text a) (value.Text b) t is = given sort.Bool t _ (binary Equal (value.Text a) (value.Text b)) refl truth_has is
  binary_has Equal (value.Ref a) (value.Ref b) t is = given sort.Bool t _ (binary Equal (value.Ref a) (value.Ref b)) refl truth_has is
  binary_has Different (value.Int a) (value.Int b) t is = given sort.Bool t _ (binary Different (value.Int a) (value.Int b)) refl truth_has is
  binary_has Different (value.Bool a) (value.Bool b) t is = given sort.Bool t _ (binary Different (value.Bool a) (value.Bool b)) refl truth_has is
  binary_has Different (value.Text a) (value.Text b) t is = given sort.Bool t _ (binary Different (value.Text a) (value.Text b)) refl truth_has is
  binary_has Different (value.Ref a) (value.Ref b) t is = given sort.Bool t _ (binary Different (value.Ref a) (value.Ref b)) refl truth_has is
  binary_has And (value.Bool a) (value.Bool b) t is = given sort.Bool t _ (binary And (value.Bool a) (value.Bool b)) refl truth_has is
  binary_has Or (value.Bool a) (value.Bool b) t is = given sort.Bool t _ (binary Or (value.Bool a) (value.Bool b)) refl truth_has is
  binary_has op v w t is = cc

  -- a part that has a type has a value of its sort
  part : (found : Option Value) (kind : Option ExprType) (s : Sort) → ((t : ExprType) → kind ≡ Some t → HasValueOf class below t found) → option_and_then sort_of kind ≡ Some s → (v : Value) × (found ≡ Some v) × (value_sort v ≡ s)
  part found None s has is = cc
  part found (Some t) s has is =
      let h = has t refl in
      (h.0, h.1, same_Some (value_sort h.0) s (sym (has_sort h.0 t h.2) ∙ is))

  pub unary_typed : (op : Unary) (found : Option Value) (kind : Option ExprType) (t : ExprType) → ((s : ExprType) → kind ≡ Some s → HasValueOf class below s found) → option_map type_of_sort (option_and_then (unary_sort op) (option_and_then sort_of kind)) ≡ Some t → HasValueOf class below t (option_and_then (unary op) found)
  unary_typed op found kind t has is =
      let s = one_sort (unary_sort op) (option_and_then sort_of kind) t is in
      let v = part found kind s.0 has s.1 in
      rw v.1 (unary_has op v.0 t (rw v.2 s.2))

  pub binary_typed : (op : Binary) (left right : Option Value) (kind type : Option ExprType) (t : ExprType) → ((s : ExprType) → kind ≡ Some s → HasValueOf class below s left) → ((s : ExprType) → type ≡ Some s → HasValueOf class below s right) → option_map type_of_sort (option_and_then (λ a. option_and_then (binary_sort op a) (option_and_then sort_of type)) (option_and_then sort_of kind)) ≡ Some t → HasValueOf class below t (option_and_then (λ a. option_and_then (binary op a) right) left)
  binary_typed op left right kind type t first second is =
      let s = two_sorts (binary_sort op) (option_and_then sort_of kind) (option_and_then sort_of type) t is in
      let v = part left kind s.0 first s.2 in
      let w = part right type s.1 second s.3 in
      rw (v.1, w.1) (binary_has op v.0 w.0 t (rw (v.2, w.2) s.4))

  pub literal_typed : (v : Value) (t : ExprType) → literal_type v ≡ Some t → IsOf class below v t
  literal_typed (value.Int z) t is = subst (λ s. IsOf class below (value.Int z) s) (same_Some (type_of_sort sort.Int) t is) number_has
  literal_typed (value.Bool b) t is = subst (λ s. IsOf class below (value.Bool b) s) (same_Some (type_of_sort sort.Bool) t is) truth_has
  literal_typed (value.Text s) t is = subst (λ u. IsOf class below (value.Text s) u) (same_Some (type_of_sort sort.Text) t is) text_has
  literal_typed (value.Ref None) t is = subst (λ s. IsOf class below (value.Ref None) s) (same_Some (type_of_sort sort.Reference) t is) refl
  literal_typed (value.Ref (Some o)) t is = cc

  pub path_typed : (found : Option Value) (kind : Option QType) (t : ExprType) → ((s : QType) → kind ≡ Some s → HasValueOf class below (Of s) found) → option_map (λ s. Of s) kind ≡ Some t → HasValueOf class below t found
  path_typed found None t has is = cc
  path_typed found (Some s) t has is = subst (λ u. HasValueOf class below u found) (same_Some (Of s) t is) (has s refl)

  abbrev IsTyped : {P : Type 0} → (P → Option Value) → (P → Option QType) → Expr P → Type 0
  IsTyped read types z = (t : ExprType) → type_of types z ≡ Some t → HasValueOf class below t (value read z)

  opened : {P : Type 0} (read : P → Option Value) (types : P → Option QType) (l : layer.Expr-F P (Expr P)) (t : ExprType) → (type_step types (map-Expr P (Expr P) (Option ExprType) (type_of types) l) ≡ Some t → HasValueOf class below t (value_step read (map-Expr P (Expr P) (Option Value) (value read) l))) → type_of types (roll-Expr P l) ≡ Some t → HasValueOf class below t (value read (roll-Expr P l))
  opened {P} read types l t has is =
      let at = fold-roll-Expr P (Option Value) (value_step read) l in
      subst (λ found. HasValueOf class below t found) (sym at) (has (sym (fold-roll-Expr P (Option ExprType) (type_step types) l) ∙ is))

  typed_layer : {P : Type 0} (read : P → Option Value) (types : P → Option QType) → TypedPaths class below read types → (y : layer.Expr-F P ((z : Expr P) × IsTyped read types z)) → IsTyped read types (roll-Expr P (map-Expr P ((z : Expr P) × IsTyped read types z) (Expr P) (λ e. e.0) y))
  typed_layer read types paths (layer.Literal v) t is = opened read types (layer.Literal v) t (λ typed. (v, refl, literal_typed v t typed)) is
  typed_layer read types paths (layer.Path p) t is = opened read types (layer.Path p) t (path_typed (read p) (types p) t (paths p)) is
  typed_layer read types paths (layer.Unary op x) t is = opened read types (layer.Unary op x.0) t (unary_typed op (value read x.0) (type_of types x.0) t x.1) is
  typed_layer read types paths (layer.Binary op x y) t is = opened read types (layer.Binary op x.0 y.0) t (binary_typed op (value read x.0) (value read y.0) (type_of types x.0) (type_of types y.0) t x.1 y.1) is

  -- by induction on the expression
  pub typed_has_value : {P : Type 0} (read : P → Option Value) (types : P → Option QType) → TypedPaths class below read types → (z : Expr P) (t : ExprType) → type_of types z ≡ Some t → HasValueOf class below t (value read z)
  typed_has_value {P} read types paths = ind-Expr P (IsTyped read types) (λ x y is. subst (λ l. IsTyped read types (roll-Expr P l)) is (typed_layer read types paths y))

-- ---- accepted types

pointer_is : (t : QType) → t.pointer ≡ true → pointer_type t.name t.constant ≡ t
pointer_is t is = ap (λ b. record t { pointer = b }) (sym is)

module _ (below : List ℕ → List ℕ → Type 0) (along : (a b c : List ℕ) → below a b → below b c → below a c) where
  module _ (class : ℕ → Option (List ℕ)) where
    null_of : (declared : QType) → declared.pointer ≡ true → Has declared_types class below (value.Ref None) declared
    null_of declared is = subst (λ t. Has declared_types class below (value.Ref None) t) (pointer_is declared is) null_has

    reference_of : (declared given : QType) (v : Value) → declared.pointer ≡ true → given.pointer ≡ true → below given.name declared.name → Has declared_types class below v given → Has declared_types class below v declared
    reference_of declared given v here there under number_has = absurd (false≢true there)
    reference_of declared given v here there under truth_has = absurd (false≢true there)
    reference_of declared given v here there under text_has = absurd (false≢true there)
    reference_of declared given v here there under null_has = null_of declared here
    reference_of declared given v here there under (object_has {o = o} is own) =
        subst (λ t. Has declared_types class below (value.Ref (Some o)) t) (pointer_is declared here) (object_has is (along _ _ _ own under))

  pub accepted_has : (declared : QType) (given : ExprType) → Accepts below declared given → TakesValues below declared given
  accepted_has declared Null is class v null = subst (λ w. Has declared_types class below w declared) (sym null) (null_of class declared is)
  accepted_has declared (Of given) (inl same) class v has = subst (λ t. Has declared_types class below v t) (sym same.1) has
  accepted_has declared (Of given) (inr under) class v has = reference_of class declared given v under.0 under.1 under.2 has
