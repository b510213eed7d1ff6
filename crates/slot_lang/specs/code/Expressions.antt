-- What the readers of expressions do, and where a part of an expression may end.
use Rattle.std.specs.Prelude.{◌≡◌, List, ◌∷◌, Result, MatchResult}
use Rattle.token_reading.specs.code.Cursor.{NotAt}
use Rattle.token_reading.specs.code.Reading.{Reads}
use Rattle.slot_lang.specs.code.Precedence.{NoOperator}
use Rattle.slot_lang.specs.declared.precedence.Precedence.{Precedence}
use Rattle.slot_lang.specs.declared.precedence.Precedence.TheVariants as precedence
use Rattle.token_reading.specs.declared.fault.ParseFault.{ParseFault}
use Rattle.token_reading.specs.declared.fault.ParseFault.TheVariants.{Syntax}
use Rattle.texts.specs.declared.symbol.Symbol.TheVariants.{Dot, Close}
use Rattle.syntax_trees.specs.declared.syntax.Expr.{Expr}
use Rattle.syntax_trees.specs.declared.syntax.Expr.TheVariants as tree
use Rattle.syntax_trees.specs.declared.syntax.Path.{Path}
use Rattle.syntax_trees.specs.declared.syntax.Root.{Root}
use Rattle.syntax_trees.specs.declared.syntax.Root.TheVariants as root
use Rattle.syntax_trees.specs.declared.syntax.Unary.{Unary}
use Rattle.texts.specs.declared.token.Token.{Token}
use Rattle.texts.specs.declared.token.Token.TheVariants as token
use Rattle.slot_lang.specs.Expressions.{Comparison, Sum, Term, spell_names, spell_expression, spell_comparison, spell_factor, tree_of_expression, tree_of_comparison, tree_of_factor}

-- ---- what can't follow a part that ends there, since the part would go on

abbrev pub EndsFactor : List Token → Type 0
EndsFactor after = NotAt Dot after

-- no operator of this precedence follows, and nothing that may not follow the rule's part
pub record EndsChain (p : Precedence) (EndsPart : List Token → Type 0) (after : List Token) : Type 0 where
  pub here : NoOperator p after
  pub part : EndsPart after

abbrev pub EndsTerm : List Token → Type 0
EndsTerm after = EndsChain precedence.Term EndsFactor after

abbrev pub EndsSum : List Token → Type 0
EndsSum after = EndsChain precedence.Sum EndsTerm after

abbrev pub EndsComparison : List Token → Type 0
EndsComparison after = EndsChain precedence.Comparison EndsSum after

abbrev pub EndsConjunction : List Token → Type 0
EndsConjunction after = EndsChain precedence.And EndsComparison after

abbrev pub EndsExpression : List Token → Type 0
EndsExpression after = EndsChain precedence.Or EndsConjunction after

-- ---- what the readers answer

abbrev pub Answer : Type 0
Answer = Result (Expr Path) ParseFault

abbrev pub ReadsExpression : List Token → Answer → List Token → Type 0
ReadsExpression before result after = Reads spell_expression tree_of_expression EndsExpression before result after

abbrev pub ReadsComparison : List Token → Answer → List Token → Type 0
ReadsComparison before result after = Reads spell_comparison tree_of_comparison EndsComparison before result after

-- what follows an operator in front
abbrev pub ReadsPrefixed : Unary → List Token → Answer → List Token → Type 0
ReadsPrefixed operator before result after =
    Reads spell_factor (λ f. tree.Unary operator (tree_of_factor f)) EndsFactor before result after

-- what follows the root of a path
abbrev pub ReadsPathFrom : Root → List Token → Answer → List Token → Type 0
ReadsPathFrom r before result after =
    Reads spell_names (λ names. tree.Path (record { root = r; properties = names })) EndsFactor before result after

-- the tree itself, where `)` comes next, and a fault of syntax where it doesn't
abbrev pub Closes : Expr Path → List Token → Answer → List Token → Type 0
Closes inner before result after =
    MatchResult result (λ e. (e ≡ inner) × (before ≡ token.Symbol Close ∷ after)) (λ e. (e ≡ Syntax) × NotAt Close before)
