use Rattle.slot_lang.proofs.OneExpression.{one_expression_tree}
use Rattle.slot_lang.proofs.expression.one_expression.Goals as goal

pub returns : goal.returns
returns c = one_expression_tree
