-- Operators by their symbols.
use Rattle.std.proofs.Common.{◌≡◌, ◌∙◌, List, [], ◌∷◌, Option, Some, None, refl, ap}
use Rattle.token_reading.specs.code.Cursor.{NotAt}
use Rattle.slot_lang.specs.code.Expressions.{EndsTerm, EndsSum, EndsComparison, EndsConjunction, EndsExpression}
use Rattle.slot_lang.specs.Precedence.{symbol_of, precedence_of}
use Rattle.slot_lang.specs.code.Precedence.{NoOperator}
use Rattle.slot_lang.specs.declared.precedence.Precedence.{Precedence}
use Rattle.slot_lang.specs.declared.precedence.Precedence.TheVariants as precedence
use Rattle.texts.specs.declared.symbol.Symbol.{Symbol}
use Rattle.texts.specs.declared.symbol.Symbol.TheVariants as symbol
use Rattle.syntax_trees.specs.declared.syntax.Binary.{Binary}
use Rattle.syntax_trees.specs.declared.syntax.Binary.TheVariants as binary
use Rattle.texts.specs.declared.token.Token.{Token}
use Rattle.texts.specs.declared.token.Token.TheVariants as token

abbrev pub operator_of : Symbol → Option Binary
operator_of symbol.Plus = Some binary.Add
operator_of symbol.Minus = Some binary.Subtract
operator_of symbol.Star = Some binary.Multiply
operator_of symbol.Less = Some binary.Less
operator_of symbol.AtMost = Some binary.AtMost
operator_of symbol.Greater = Some binary.Greater
operator_of symbol.AtLeast = Some binary.AtLeast
operator_of symbol.Equal = Some binary.Equal
operator_of symbol.Unequal = Some binary.Different
operator_of symbol.And = Some binary.And
operator_of symbol.Or = Some binary.Or
operator_of _ = None

found_again : (b : Binary) → operator_of (symbol_of b) ≡ Some b
found_again binary.Add = refl
found_again _ = refl

pub one_operator : (a b : Binary) → symbol_of a ≡ symbol_of b → a ≡ b
one_operator a b e =
    let p = found_again a in
    let q = found_again b in
    let r = ap operator_of e in
    cc

-- a symbol that is no operator
pub not_spelled : (s : Symbol) → operator_of s ≡ None → (b : Binary) → s ≡ symbol_of b → ⊥
not_spelled s none b e =
    let p = found_again b in
    let r = ap operator_of e in
    cc

pub no_operator : (p : Precedence) (t : Token) (after : List Token) → ((b : Binary) → t ≡ token.Symbol (symbol_of b) → ⊥) → NoOperator p (t ∷ after)
no_operator p t after none o rest e = none o.binary cc

-- an operator that binds otherwise
pub other_operator : (p : Precedence) (b : Binary) (after : List Token) → (precedence_of b ≡ p → ⊥) → NoOperator p (token.Symbol (symbol_of b) ∷ after)
other_operator p b after other o rest e =
    let same = one_operator b o.binary cc in
    let binds = o.binds in
    other (ap precedence_of same ∙ binds)

pub no_dot : (b : Binary) (after : List Token) → NotAt symbol.Dot (token.Symbol (symbol_of b) ∷ after)
no_dot b after rest e = not_spelled symbol.Dot refl b cc

-- ---- where rules may end

pub term_ends : (b : Binary) (after : List Token) → (precedence_of b ≡ precedence.Term → ⊥) → EndsTerm (token.Symbol (symbol_of b) ∷ after)
term_ends b after term = record { here = other_operator precedence.Term b after term; part = no_dot b after }

pub sum_ends : (b : Binary) (after : List Token) → (precedence_of b ≡ precedence.Term → ⊥) → (precedence_of b ≡ precedence.Sum → ⊥) → EndsSum (token.Symbol (symbol_of b) ∷ after)
sum_ends b after term sum = record { here = other_operator precedence.Sum b after sum; part = term_ends b after term }

pub comparison_ends : (b : Binary) (after : List Token) → (precedence_of b ≡ precedence.Term → ⊥) → (precedence_of b ≡ precedence.Sum → ⊥) → (precedence_of b ≡ precedence.Comparison → ⊥) → EndsComparison (token.Symbol (symbol_of b) ∷ after)
comparison_ends b after term sum comparison = record { here = other_operator precedence.Comparison b after comparison; part = sum_ends b after term sum }

pub conjunction_ends : (b : Binary) (after : List Token) → (precedence_of b ≡ precedence.Term → ⊥) → (precedence_of b ≡ precedence.Sum → ⊥) → (precedence_of b ≡ precedence.Comparison → ⊥) → (precedence_of b ≡ precedence.And → ⊥) → EndsConjunction (token.Symbol (symbol_of b) ∷ after)
conjunction_ends b after term sum comparison and = record { here = other_operator precedence.And b after and; part = comparison_ends b after term sum comparison }

-- an expression may end at a symbol that is neither an operator nor a dot, as `;`, `,` and `)`
pub expression_ends : (s : Symbol) (after : List Token) → operator_of s ≡ None → (s ≡ symbol.Dot → ⊥) → EndsExpression (token.Symbol s ∷ after)
expression_ends s after none dot =
    let nowhere : (p : Precedence) → NoOperator p (token.Symbol s ∷ after) = λ p. no_operator p (token.Symbol s) after (λ b e. not_spelled s none b cc) in
    record {
      here = nowhere precedence.Or;
      part = record {
        here = nowhere precedence.And;
        part = record {
          here = nowhere precedence.Comparison;
          part = record {
            here = nowhere precedence.Sum;
            part = record { here = nowhere precedence.Term; part = λ rest e. dot cc };
          };
        };
      };
    }

-- and where nothing follows
pub expression_ends_at_end : EndsExpression []
expression_ends_at_end =
    let nowhere : (p : Precedence) → NoOperator p [] = λ p o rest e. cc in
    record {
      here = nowhere precedence.Or;
      part = record {
        here = nowhere precedence.And;
        part = record {
          here = nowhere precedence.Comparison;
          part = record {
            here = nowhere precedence.Sum;
            part = record { here = nowhere precedence.Term; part = λ rest e. cc };
          };
        };
      };
    }
