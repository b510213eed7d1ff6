-- The value of an expression, where `read` gives what its paths lead to (docs/language.md, "Expressions").
use Rattle.std.specs.Prelude.{◌≡◌, List, [], ◌∷◌, Option, Some, None, Result, Ok, Err}
use Rattle.std.specs.Option.{option_and_then, option_map}
use Rattle.basic_types.specs.declared.value.Value.{Value}
use Rattle.syntax_trees.specs.declared.syntax.Expr.{Expr}
use Rattle.syntax_trees.specs.declared.syntax.Expr.TheOpen as layer
use Rattle.syntax_trees.specs.declared.syntax.Expr.TheFolds.{fold-Expr}
use Rattle.expressions.specs.declared.evaluation.EvalFault.{EvalFault}
use Rattle.expressions.specs.declared.evaluation.EvalFault.TheVariants.{BadType, Memory}
use Rattle.expressions.specs.Operators.{unary, binary}

-- the value of an expression from those of its parts; both operands are evaluated, and there is no value where an
-- operator meets one that it does not take
abbrev pub value_step : {P : Type 0} → (P → Option Value) → layer.Expr-F P (Option Value) → Option Value
value_step read (layer.Literal v) = Some v
value_step read (layer.Path p) = read p
value_step read (layer.Unary op v) = option_and_then (unary op) v
value_step read (layer.Binary op v w) = option_and_then (λ a. option_and_then (binary op a) w) v

abbrev pub value : {P : Type 0} → (P → Option Value) → Expr P → Option Value
value {P} read = fold-Expr P (Option Value) (value_step read)

-- the values of expressions, in their order; none where one of them has none
abbrev pub values : {P : Type 0} → (P → Option Value) → List (Expr P) → Option (List Value)
values read [] = Some []
values read (e ∷ es) = option_and_then (λ v. option_map (λ vs. v ∷ vs) (values read es)) (value read e)

-- the answer is the value, and a fault of types where there is none
abbrev pub Evaluates : Option Value → Result Value EvalFault → Type 0
Evaluates found (Ok v) = found ≡ Some v
Evaluates found (Err BadType) = found ≡ None
Evaluates found (Err Memory) = Unit {0}

-- the same of the values of a list
abbrev pub EvaluatesAll : Option (List Value) → Result (List Value) EvalFault → Type 0
EvaluatesAll found (Ok vs) = found ≡ Some vs
EvaluatesAll found (Err BadType) = found ≡ None
EvaluatesAll found (Err Memory) = Unit {0}
