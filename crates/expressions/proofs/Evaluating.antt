-- The value of an expression from those of its parts.
use Rattle.std.proofs.Common.{◌≡◌, ℕ, suc, ◌+◌, ◌<◌, List, [], ◌∷◌, ◌++◌, length, get_or, drop, drop-cons, add-one, Option, Some, None, Result, Ok, Err, ap, sym, ◌∙◌, append_assoc}
use Rattle.std.specs.Result.{IsErrAnd}
use Rattle.std.specs.Option.{option_and_then, option_map}
use Rattle.basic_types.specs.declared.value.Value.{Value}
use Rattle.syntax_trees.specs.declared.syntax.Unary.{Unary}
use Rattle.syntax_trees.specs.declared.syntax.Binary.{Binary}
use Rattle.syntax_trees.specs.declared.syntax.Expr.{Expr}
use Rattle.syntax_trees.specs.declared.syntax.Expr.TheVariants as e
use Rattle.syntax_trees.specs.declared.syntax.Expr.TheOpen as layer
use Rattle.syntax_trees.specs.declared.syntax.Expr.TheFolds.{fold-roll-Expr}
use Rattle.expressions.specs.declared.evaluation.EvalFault.{EvalFault}
use Rattle.expressions.specs.declared.evaluation.EvalFault.TheVariants.{BadType, Memory}
use Rattle.expressions.specs.Operators.{unary, binary}
use Rattle.expressions.specs.Evaluation.{value, value_step, values, Evaluates, EvaluatesAll}

pub value-Literal : {P : Type 0} (read : P → Option Value) (v : Value) → value read (e.Literal v) ≡ Some v
value-Literal {P} read v = ap (value read) (sym (e.rolls-Literal v)) ∙ fold-roll-Expr P (Option Value) (value_step read) (layer.Literal v)

pub value-Path : {P : Type 0} (read : P → Option Value) (p : P) → value read (e.Path p) ≡ read p
value-Path {P} read p = ap (value read) (sym (e.rolls-Path p)) ∙ fold-roll-Expr P (Option Value) (value_step read) (layer.Path p)

pub value-Unary : {P : Type 0} (read : P → Option Value) (op : Unary) (z : Expr P) → value read (e.Unary op z) ≡ option_and_then (unary op) (value read z)
value-Unary {P} read op z = ap (value read) (sym (e.rolls-Unary op z)) ∙ fold-roll-Expr P (Option Value) (value_step read) (layer.Unary op z)

pub value-Binary : {P : Type 0} (read : P → Option Value) (op : Binary) (x y : Expr P) → value read (e.Binary op x y) ≡ option_and_then (λ a. option_and_then (binary op a) (value read y)) (value read x)
value-Binary {P} read op x y = ap (value read) (sym (e.rolls-Binary op x y)) ∙ fold-roll-Expr P (Option Value) (value_step read) (layer.Binary op x y)

pub ruleset value_equations = (value-Literal, value-Path, value-Unary, value-Binary)

moved : (found : Option (List Value)) (before : List Value) (v : Value) (o : Option (List Value)) → option_map (λ vs. before ++ vs) (option_map (λ vs. v ∷ vs) o) ≡ found → option_map (λ vs. (before ++ v ∷ []) ++ vs) o ≡ found
moved found before v None is = is
moved found before v (Some vs) is = ap Some (append_assoc before (v ∷ []) vs) ∙ is

-- the elements from the i-th on
pub from_next : {X : Type 0} (xs : List X) (i : ℕ) (x : X) → i < length xs → x ≡ get_or xs i x → drop i xs ≡ x ∷ drop (i + 1) xs
from_next xs i x below is = rw add-one (drop-cons xs i x below ∙ ap (λ y. y ∷ drop (suc i) xs) (sym is))

-- the value of the next expression joins those that are there
pub next_value : {P : Type 0} (read : P → Option Value) (found : Option (List Value)) (before : List Value) (z : Expr P) (rest : List (Expr P)) (v : Value) → value read z ≡ Some v → option_map (λ vs. before ++ vs) (values read (z ∷ rest)) ≡ found → option_map (λ vs. (before ++ v ∷ []) ++ vs) (values read rest) ≡ found
next_value read found before z rest v is all = moved found before v (values read rest) (rw is at all)

-- where the next expression has no value, there are none of the list
pub no_values : {P : Type 0} (read : P → Option Value) (found : Option (List Value)) (before : List Value) (z : Expr P) (rest : List (Expr P)) (fault : EvalFault) → option_map (λ vs. before ++ vs) (values read (z ∷ rest)) ≡ found → Evaluates (value read z) (Err fault) → EvaluatesAll found (Err fault)
no_values read found before z rest BadType all none = sym (rw none at all)
no_values read found before z rest Memory all none = tt

pub fails_with : {A : Type 0} (r : Result A EvalFault) (fault : EvalFault) → IsErrAnd r (λ y. y ≡ fault) → r ≡ Err fault
fails_with (Ok x) fault never = absurd never
fails_with (Err y) fault is = ap Err is
