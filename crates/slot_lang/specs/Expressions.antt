-- The grammar of expressions. A value of a type below is a way to read tokens by its rule (docs/language.md,
-- "Expressions").
--
--   expr   = and {"||" and}
--   and    = cmp {"&&" cmp}
--   cmp    = sum [("==" | "!=" | "<" | "<=" | ">" | ">=") sum]
--   sum    = term {("+" | "-") term}
--   term   = factor {"*" factor}
--   factor = ("!" | "-") factor | unsigned | path | "(" expr ")"
--   path   = ("this" | Name) {"." Name}
use Rattle.std.specs.Prelude.{ℕ, ◌≡◌, List, [], ◌∷◌}
use Rattle.basic_types.specs.declared.word.Word.TheVariants as word
use Rattle.token_reading.specs.Literals.{UnsignedReading, token_of_unsigned, tree_of_unsigned}
use Rattle.syntax_trees.specs.Literals.{literal_value}
use Rattle.slot_lang.specs.Precedence.{symbol_of, prefix_symbol_of, Operator}
use Rattle.slot_lang.specs.declared.precedence.Precedence.TheVariants as precedence
use Rattle.texts.specs.declared.symbol.Symbol.TheVariants.{Dot, Open, Close}
use Rattle.syntax_trees.specs.declared.syntax.Expr.{Expr}
use Rattle.syntax_trees.specs.declared.syntax.Expr.TheVariants as tree
use Rattle.syntax_trees.specs.declared.syntax.Path.{Path}
use Rattle.syntax_trees.specs.declared.syntax.Root.{Root}
use Rattle.syntax_trees.specs.declared.syntax.Root.TheVariants as root
use Rattle.syntax_trees.specs.declared.syntax.Unary.{Unary}
use Rattle.texts.specs.declared.token.Token.{Token}
use Rattle.texts.specs.declared.token.Token.TheVariants as token

mutual
  pub data Expression : Type 0 where
    expression : Conjunction → Conjunctions → Expression

  -- {"||" and}
  pub data Conjunctions : Type 0 where
    no_conjunction : Conjunctions
    or_else : Operator precedence.Or → Conjunction → Conjunctions → Conjunctions

  pub data Conjunction : Type 0 where
    conjunction : Comparison → Comparisons → Conjunction

  -- {"&&" cmp}
  pub data Comparisons : Type 0 where
    no_comparison : Comparisons
    and_also : Operator precedence.And → Comparison → Comparisons → Comparisons

  pub data Comparison : Type 0 where
    alone : Sum → Comparison
    compared : Sum → Operator precedence.Comparison → Sum → Comparison

  pub data Sum : Type 0 where
    sum : Term → Terms → Sum

  -- {("+" | "-") term}
  pub data Terms : Type 0 where
    no_term : Terms
    signed : Operator precedence.Sum → Term → Terms → Terms

  pub data Term : Type 0 where
    term : Factor → Factors → Term

  -- {"*" factor}
  pub data Factors : Type 0 where
    no_factor : Factors
    times : Operator precedence.Term → Factor → Factors → Factors

  pub data Factor : Type 0 where
    prefixed : Unary → Factor → Factor
    literal : UnsignedReading → Factor
    path : Path → Factor
    grouped : Expression → Factor

-- ---- the tokens of a reading, and what follows them

abbrev pub spell_root : Root → List Token → List Token
spell_root root.This after = token.Word word.This ∷ after
spell_root (root.Name name) after = token.Name name ∷ after

-- {"." Name}
abbrev pub spell_names : List (List ℕ) → List Token → List Token
spell_names [] after = after
spell_names (name ∷ names) after = token.Symbol Dot ∷ token.Name name ∷ spell_names names after

abbrev pub spell_path : Path → List Token → List Token
spell_path p after = spell_root p.root (spell_names p.properties after)

abbrev mutual
  pub spell_expression : Expression → List Token → List Token
  spell_expression (expression c cs) after = spell_conjunction c (spell_conjunctions cs after)

  pub spell_conjunctions : Conjunctions → List Token → List Token
  spell_conjunctions no_conjunction after = after
  spell_conjunctions (or_else o c cs) after = token.Symbol (symbol_of o.binary) ∷ spell_conjunction c (spell_conjunctions cs after)

  pub spell_conjunction : Conjunction → List Token → List Token
  spell_conjunction (conjunction c cs) after = spell_comparison c (spell_comparisons cs after)

  pub spell_comparisons : Comparisons → List Token → List Token
  spell_comparisons no_comparison after = after
  spell_comparisons (and_also o c cs) after = token.Symbol (symbol_of o.binary) ∷ spell_comparison c (spell_comparisons cs after)

  pub spell_comparison : Comparison → List Token → List Token
  spell_comparison (alone s) after = spell_sum s after
  spell_comparison (compared s o t) after = spell_sum s (token.Symbol (symbol_of o.binary) ∷ spell_sum t after)

  pub spell_sum : Sum → List Token → List Token
  spell_sum (sum t ts) after = spell_term t (spell_terms ts after)

  pub spell_terms : Terms → List Token → List Token
  spell_terms no_term after = after
  spell_terms (signed o t ts) after = token.Symbol (symbol_of o.binary) ∷ spell_term t (spell_terms ts after)

  pub spell_term : Term → List Token → List Token
  spell_term (term f fs) after = spell_factor f (spell_factors fs after)

  pub spell_factors : Factors → List Token → List Token
  spell_factors no_factor after = after
  spell_factors (times o f fs) after = token.Symbol (symbol_of o.binary) ∷ spell_factor f (spell_factors fs after)

  pub spell_factor : Factor → List Token → List Token
  spell_factor (prefixed u f) after = token.Symbol (prefix_symbol_of u) ∷ spell_factor f after
  spell_factor (literal u) after = token_of_unsigned u ∷ after
  spell_factor (path p) after = spell_path p after
  spell_factor (grouped e) after = token.Symbol Open ∷ spell_expression e (token.Symbol Close ∷ after)

-- what follows an opening parenthesis
abbrev pub spell_group : Expression → List Token → List Token
spell_group e after = spell_expression e (token.Symbol Close ∷ after)

-- ---- the tree of a reading, which groups to the left

abbrev mutual
  pub tree_of_expression : Expression → Expr Path
  tree_of_expression (expression c cs) = tree_of_conjunctions cs (tree_of_conjunction c)

  pub tree_of_conjunctions : Conjunctions → Expr Path → Expr Path
  tree_of_conjunctions no_conjunction left = left
  tree_of_conjunctions (or_else o c cs) left = tree_of_conjunctions cs (tree.Binary o.binary left (tree_of_conjunction c))

  pub tree_of_conjunction : Conjunction → Expr Path
  tree_of_conjunction (conjunction c cs) = tree_of_comparisons cs (tree_of_comparison c)

  pub tree_of_comparisons : Comparisons → Expr Path → Expr Path
  tree_of_comparisons no_comparison left = left
  tree_of_comparisons (and_also o c cs) left = tree_of_comparisons cs (tree.Binary o.binary left (tree_of_comparison c))

  pub tree_of_comparison : Comparison → Expr Path
  tree_of_comparison (alone s) = tree_of_sum s
  tree_of_comparison (compared s o t) = tree.Binary o.binary (tree_of_sum s) (tree_of_sum t)

  pub tree_of_sum : Sum → Expr Path
  tree_of_sum (sum t ts) = tree_of_terms ts (tree_of_term t)

  pub tree_of_terms : Terms → Expr Path → Expr Path
  tree_of_terms no_term left = left
  tree_of_terms (signed o t ts) left = tree_of_terms ts (tree.Binary o.binary left (tree_of_term t))

  pub tree_of_term : Term → Expr Path
  tree_of_term (term f fs) = tree_of_factors fs (tree_of_factor f)

  pub tree_of_factors : Factors → Expr Path → Expr Path
  tree_of_factors no_factor left = left
  tree_of_factors (times o f fs) left = tree_of_factors fs (tree.Binary o.binary left (tree_of_factor f))

  pub tree_of_factor : Factor → Expr Path
  tree_of_factor (prefixed u f) = tree.Unary u (tree_of_factor f)
  tree_of_factor (literal u) = tree.Literal (literal_value (tree_of_unsigned u))
  tree_of_factor (path p) = tree.Path p
  tree_of_factor (grouped e) = tree_of_expression e

-- ---- expressions

-- the tokens are this expression
pub record IsExpr (tokens : List Token) (e : Expr Path) : Type 0 where
  pub reading : Expression
  pub spelled : tokens ≡ spell_expression reading []
  pub tree : tree_of_expression reading ≡ e

-- tokens are an expression in at most one way
abbrev pub OneExpression : Type 0
OneExpression = (tokens : List Token) (a b : Expr Path) → IsExpr tokens a → IsExpr tokens b → a ≡ b
