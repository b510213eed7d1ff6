use Rattle.slot_lang.specs.Expressions.{tree_of_expression}
use Rattle.slot_lang.specs.code.Expressions.{EndsFactor}
use Rattle.slot_lang.specs.Grammar.{Target, spell_target, spell_value}
use Rattle.token_reading.specs.code.Reading.{EndsAnywhere}
use Rattle.syntax_trees.specs.declared.syntax.Stmt.TheVariants as stmt
use Rattle.token_reading.proofs.Both.{both_found}
use Rattle.slot_lang.proofs.Bodies.{value_meets}
use Rattle.slot_lang.proofs.body.assignment.Goals as goal

pub returns-clause-reads : goal.returns-clause-reads
returns-clause-reads c = both_found spell_target (λ t. t) EndsFactor spell_value tree_of_expression EndsAnywhere (λ (t : Target) e. stmt.Set t.0 t.1 e) value_meets c.in_ok-path.ensures.reads c.in_ok-value.ensures.reads
