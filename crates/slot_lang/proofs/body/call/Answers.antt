use Rattle.std.proofs.Common.{map}
use Rattle.slot_lang.specs.Expressions.{tree_of_expression}
use Rattle.slot_lang.specs.code.Expressions.{EndsFactor}
use Rattle.slot_lang.specs.Grammar.{Target, spell_target, spell_arguments}
use Rattle.token_reading.specs.code.Reading.{EndsAnywhere}
use Rattle.syntax_trees.specs.declared.syntax.Stmt.TheVariants as stmt
use Rattle.token_reading.proofs.Both.{both_found}
use Rattle.slot_lang.proofs.Bodies.{arguments_meet}
use Rattle.slot_lang.proofs.body.call.Goals as goal

pub returns-clause-reads : goal.returns-clause-reads
returns-clause-reads c = both_found spell_target (λ t. t) EndsFactor spell_arguments (map tree_of_expression) EndsAnywhere (λ (t : Target) es. stmt.Call t.0 t.1 es) arguments_meet c.in_ok-path.ensures.reads c.in_ok-arguments.ensures.reads
