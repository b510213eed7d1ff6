-- The rules of expressions whose operators group to the left, by their level (docs/language.md, "Expressions"): an
-- operand, and operators of one precedence with an operand behind each.
use Rattle.std.specs.Prelude.{List}
use Rattle.slot_lang.specs.code.Expressions.{Answer, EndsChain, EndsConjunction, EndsComparison, EndsTerm, EndsFactor}
use Rattle.slot_lang.specs.Expressions.{Expression, Conjunction, Comparison, Sum, Term, Factor, spell_expression, spell_conjunction, spell_comparison, spell_sum, spell_term, spell_factor, tree_of_expression, tree_of_conjunction, tree_of_comparison, tree_of_sum, tree_of_term, tree_of_factor}
use Rattle.slot_lang.specs.declared.precedence.Level.{Level}
use Rattle.slot_lang.specs.declared.precedence.Level.TheVariants as level
use Rattle.slot_lang.specs.declared.precedence.Precedence.{Precedence}
use Rattle.slot_lang.specs.declared.precedence.Precedence.TheVariants as precedence
use Rattle.token_reading.specs.code.Reading.{Found, Reads}
use Rattle.syntax_trees.specs.declared.syntax.Expr.{Expr}
use Rattle.syntax_trees.specs.declared.syntax.Path.{Path}
use Rattle.texts.specs.declared.token.Token.{Token}

-- the operators of the rule
abbrev pub precedence_at : Level → Precedence
precedence_at level.Or = precedence.Or
precedence_at level.And = precedence.And
precedence_at level.Sum = precedence.Sum
precedence_at level.Term = precedence.Term

-- ---- the rule

abbrev pub ReadingAt : Level → Type 0
ReadingAt level.Or = Expression
ReadingAt level.And = Conjunction
ReadingAt level.Sum = Sum
ReadingAt level.Term = Term

abbrev pub spell_at : (l : Level) → ReadingAt l → List Token → List Token
spell_at level.Or = spell_expression
spell_at level.And = spell_conjunction
spell_at level.Sum = spell_sum
spell_at level.Term = spell_term

abbrev pub tree_at : (l : Level) → ReadingAt l → Expr Path
tree_at level.Or = tree_of_expression
tree_at level.And = tree_of_conjunction
tree_at level.Sum = tree_of_sum
tree_at level.Term = tree_of_term

-- ---- its operands

abbrev pub OperandAt : Level → Type 0
OperandAt level.Or = Conjunction
OperandAt level.And = Comparison
OperandAt level.Sum = Term
OperandAt level.Term = Factor

abbrev pub spell_operand : (l : Level) → OperandAt l → List Token → List Token
spell_operand level.Or = spell_conjunction
spell_operand level.And = spell_comparison
spell_operand level.Sum = spell_term
spell_operand level.Term = spell_factor

abbrev pub tree_of_operand : (l : Level) → OperandAt l → Expr Path
tree_of_operand level.Or = tree_of_conjunction
tree_of_operand level.And = tree_of_comparison
tree_of_operand level.Sum = tree_of_term
tree_of_operand level.Term = tree_of_factor

abbrev pub EndsOperand : Level → List Token → Type 0
EndsOperand level.Or after = EndsConjunction after
EndsOperand level.And after = EndsComparison after
EndsOperand level.Sum after = EndsTerm after
EndsOperand level.Term after = EndsFactor after

-- what can follow the rule
abbrev pub EndsAt : Level → List Token → Type 0
EndsAt l after = EndsChain (precedence_at l) (EndsOperand l) after

-- ---- what the readers answer

abbrev pub ReadsChain : Level → List Token → Answer → List Token → Type 0
ReadsChain l before result after = Reads (spell_at l) (tree_at l) (EndsAt l) before result after

abbrev pub ReadsOperand : Level → List Token → Answer → List Token → Type 0
ReadsOperand l before result after = Reads (spell_operand l) (tree_of_operand l) (EndsOperand l) before result after

-- the first operand was read already: with it, behind whatever tokens it is, the rule is read on
abbrev pub GoesOn : Level → Expr Path → List Token → Answer → List Token → Type 0
GoesOn l first now result after =
    (before : List Token) → Found (spell_operand l) (tree_of_operand l) (EndsOperand l) before first now → ReadsChain l before result after
