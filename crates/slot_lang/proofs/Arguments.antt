-- Expressions as the parts of a list in parentheses.
use Rattle.std.proofs.Common.{◌≡◌, List, ◌∷◌, refl}
use Rattle.slot_lang.specs.Expressions.{Expression, expression, conjunction, alone, compared, Sum, sum, term, Factor, prefixed, literal, path, grouped, spell_expression, spell_sum, spell_factor, spell_names}
use Rattle.slot_lang.specs.code.Expressions.{EndsExpression}
use Rattle.texts.specs.declared.symbol.Symbol.TheVariants.{Close, Comma}
use Rattle.syntax_trees.specs.declared.syntax.Unary.TheVariants as unary
use Rattle.texts.specs.declared.token.Token.{Token}
use Rattle.texts.specs.declared.token.Token.TheVariants as token
use Rattle.token_reading.specs.code.Lists.{IsPart}
use Rattle.token_reading.proofs.Literals.{no_symbol}
use Rattle.slot_lang.proofs.Paths.{root_no_symbol}
use Rattle.slot_lang.proofs.Precedences.{expression_ends}

factor_unclosed : (f : Factor) (rest after : List Token) → spell_factor f rest ≡ token.Symbol Close ∷ after → ⊥
factor_unclosed (prefixed unary.Not f) rest after e = cc
factor_unclosed (prefixed unary.Minus f) rest after e = cc
factor_unclosed (literal u) rest after e = no_symbol u Close cc
factor_unclosed (path p) rest after e = root_no_symbol p.root Close (spell_names p.properties rest) after e
factor_unclosed (grouped c) rest after e = cc

sum_unclosed : (s : Sum) (rest after : List Token) → spell_sum s rest ≡ token.Symbol Close ∷ after → ⊥
sum_unclosed (sum (term f fs) ts) rest after e = factor_unclosed f _ after e

expression_unclosed : (c : Expression) (rest after : List Token) → spell_expression c rest ≡ token.Symbol Close ∷ after → ⊥
expression_unclosed (expression (conjunction (alone s) cs) ds) rest after e = sum_unclosed s _ after e
expression_unclosed (expression (conjunction (compared s o t) cs) ds) rest after e = sum_unclosed s _ after e

pub expressions_are_parts : IsPart spell_expression EndsExpression
expressions_are_parts = record {
  at_comma = λ rest. expression_ends Comma rest refl (λ e. cc);
  at_close = λ rest. expression_ends Close rest refl (λ e. cc);
  unclosed = expression_unclosed;
}
