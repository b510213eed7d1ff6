use Rattle.token_reading.specs.Literals.{spell_literal, tree_of_literal}
use Rattle.class_lang.proofs.Sequences.{optional_found}
use Rattle.class_lang.proofs.members.initial.Goals as goal

pub returns-in_ok-value-clause-reads : goal.returns-in_ok-value-clause-reads
returns-in_ok-value-clause-reads c = optional_found spell_literal tree_of_literal c.if-eat.ensures.found c.in_ok-value.ensures.reads
