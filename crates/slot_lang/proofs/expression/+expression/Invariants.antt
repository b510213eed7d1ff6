use Rattle.std.proofs.Common.{◌+◌, ◌*◌, ◌≤◌, List, length}
use Rattle.token_reading.specs.code.Reading.{Found}
use Rattle.texts.specs.declared.token.Token.{Token}
use Rattle.slot_lang.specs.code.Levels.{spell_operand, tree_of_operand, EndsOperand}
use Rattle.slot_lang.proofs.Chains.{ChainSoFar}
use Rattle.slot_lang.proofs.Levels.{chain_at, operand_rank}
use Rattle.slot_lang.proofs.expression.+expression.Given as goal

abbrev pub decreases-factor : goal.decreases-factor
decreases-factor l = 16 * length l.cursor.now

abbrev pub decreases-prefixed : goal.decreases-prefixed
decreases-prefixed l = 16 * length l.cursor.now + 1

abbrev pub decreases-term : goal.decreases-term
decreases-term l = 16 * length l.cursor.now + 2

abbrev pub decreases-sum : goal.decreases-sum
decreases-sum l = 16 * length l.cursor.now + 4

abbrev pub decreases-comparison : goal.decreases-comparison
decreases-comparison l = 16 * length l.cursor.now + 5

abbrev pub decreases-conjunction : goal.decreases-conjunction
decreases-conjunction l = 16 * length l.cursor.now + 7

abbrev pub decreases-operand : goal.decreases-operand
decreases-operand l = 16 * length l.cursor.now + operand_rank l.level

abbrev pub decreases-chain : goal.decreases-chain
decreases-chain l = 16 * length l.cursor.now + 12

abbrev pub decreases-go_on : goal.decreases-go_on
decreases-go_on l = 16 * length l.cursor.now + 13

abbrev pub decreases-expression : goal.decreases-expression
decreases-expression l = 16 * length l.cursor.now + 10

abbrev pub decreases-group : goal.decreases-group
decreases-group l = 16 * length l.cursor.now + 11

abbrev pub invariant-chain-loop-operator : goal.invariant-chain-loop-operator
invariant-chain-loop-operator l = record {
  so_far : (before : List Token) → Found (spell_operand l.fn.level) (tree_of_operand l.fn.level) (EndsOperand l.fn.level) before l.fn.first l.fn.cursor → ChainSoFar (chain_at l.fn.level) before l.left l.cursor;
  no_longer : length l.cursor ≤ length l.fn.cursor;
}

abbrev pub decreases-chain-loop-operator : goal.decreases-chain-loop-operator
decreases-chain-loop-operator l = length l.cursor
