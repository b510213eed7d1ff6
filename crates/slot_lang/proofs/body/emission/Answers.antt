use Rattle.std.proofs.Common.{map}
use Rattle.slot_lang.specs.Expressions.{tree_of_expression}
use Rattle.slot_lang.specs.Grammar.{spell_arguments}
use Rattle.token_reading.specs.code.Reading.{EndsAnywhere}
use Rattle.token_reading.specs.Reading.{spell_name}
use Rattle.syntax_trees.specs.declared.syntax.Stmt.TheVariants as stmt
use Rattle.token_reading.proofs.Both.{both_found}
use Rattle.slot_lang.proofs.body.emission.Goals as goal

pub returns-clause-reads : goal.returns-clause-reads
returns-clause-reads c = both_found spell_name (λ x. x) EndsAnywhere spell_arguments (map tree_of_expression) EndsAnywhere (λ x es. stmt.Emit x es) (λ es rest ends. tt) c.in_ok-signal.ensures.reads c.in_ok-arguments.ensures.reads
