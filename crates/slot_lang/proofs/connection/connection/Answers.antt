use Rattle.token_reading.proofs.Both.{both_found}
use Rattle.token_reading.specs.code.Reading.{EndsAnywhere}
use Rattle.syntax_trees.specs.declared.syntax.Stmt.TheVariants as stmt
use Rattle.slot_lang.specs.Grammar.{spell_path_ends, tree_of_path_ends, spell_how}
use Rattle.slot_lang.proofs.connection.connection.Goals as goal

pub returns-clause-reads : goal.returns-clause-reads
returns-clause-reads c =
    both_found spell_path_ends tree_of_path_ends EndsAnywhere spell_how (λ how. how) EndsAnywhere (λ ends how. stmt.Connect ends how) (λ how rest ends. tt) c.in_ok-ends.ensures.reads c.in_ok-how.ensures.reads
