-- The grammar of bindings. A value of a type below is a way to read tokens by its rule
-- (docs/language.md, "Bindings").
--
--   binding = Name Name "." Name "(" [formal {"," formal}] ")" "=" bexpr ";"
--   formal  = Name Name
--   bexpr   = expr, in which no null stands, and each path of which is Name "." Name
use Rattle.std.specs.Prelude.{ℕ, ◌≡◌, ◌&&◌, Bool, true, false, List, [], ◌∷◌, map}
use Rattle.basic_types.specs.declared.value.Value.{Value}
use Rattle.basic_types.specs.declared.value.Value.TheVariants as value
use Rattle.slot_lang.specs.Expressions.{Expression, tree_of_expression}
use Rattle.slot_lang.specs.Grammar.{spell_value}
use Rattle.token_reading.specs.Lists.{spell_listed}
use Rattle.texts.specs.declared.symbol.Symbol.TheVariants.{Dot}
use Rattle.syntax_trees.specs.declared.syntax.Expr.{Expr}
use Rattle.syntax_trees.specs.declared.syntax.Expr.TheOpen as layer
use Rattle.syntax_trees.specs.declared.syntax.Expr.TheFolds.{fold-Expr}
use Rattle.syntax_trees.specs.declared.syntax.Path.{Path}
use Rattle.syntax_trees.specs.declared.syntax.Root.{Root}
use Rattle.syntax_trees.specs.declared.syntax.Root.TheVariants as root
use Rattle.texts.specs.declared.token.Token.{Token}
use Rattle.texts.specs.declared.token.Token.TheVariants as token
use Rattle.syntax_trees.specs.declared.program.Formal.{Formal}
use Rattle.syntax_trees.specs.declared.program.Site.{Site}

-- ---- what may be in a binding's expression
abbrev pub is_name : Root → Bool
is_name root.This = false
is_name (root.Name name) = true

abbrev pub is_one : List (List ℕ) → Bool
is_one [] = false
is_one (name ∷ []) = true
is_one (name ∷ other ∷ names) = false

-- Name "." Name
abbrev pub is_of_formal : Path → Bool
is_of_formal path = is_name path.root && is_one path.properties

abbrev pub is_no_null : Value → Bool
is_no_null (value.Ref reference) = false
is_no_null v = true

abbrev pub bexpr_step : layer.Expr-F Path Bool → Bool
bexpr_step (layer.Literal v) = is_no_null v
bexpr_step (layer.Path path) = is_of_formal path
bexpr_step (layer.Unary op b) = b
bexpr_step (layer.Binary op b c) = b && c

-- no null, and each path is a property of a formal source
abbrev pub is_bexpr : Expr Path → Bool
is_bexpr = fold-Expr Path Bool bexpr_step

-- ---- formal sources
pub data FormalReading : Type 0 where
  formal : (class name : List ℕ) → FormalReading

abbrev pub spell_formal : FormalReading → List Token → List Token
spell_formal (formal class name) after = token.Name class ∷ token.Name name ∷ after

abbrev pub tree_of_formal : FormalReading → Formal
tree_of_formal (formal class name) = record { class = class; name = name }

-- ---- bindings
pub data SiteReading : Type 0 where
  site : (name class property : List ℕ) → List FormalReading → (e : Expression)
      → is_bexpr (tree_of_expression e) ≡ true → SiteReading

abbrev pub spell_site : SiteReading → List Token → List Token
spell_site (site name class property formals e fits) after =
    token.Name name ∷ token.Name class ∷ token.Symbol Dot ∷ token.Name property
    ∷ spell_listed spell_formal formals (spell_value e after)

abbrev pub tree_of_site : SiteReading → Site
tree_of_site (site name class property formals e fits) = record {
  name = name;
  class = class;
  property = property;
  formals = map tree_of_formal formals;
  expression = tree_of_expression e;
}
