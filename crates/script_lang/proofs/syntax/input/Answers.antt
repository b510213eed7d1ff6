use Rattle.script_lang.proofs.Events.{object_found, literal_found}
use Rattle.script_lang.proofs.syntax.input.Goals as goal

pub returns-in_ok-name-clause-reads : goal.returns-in_ok-name-clause-reads
returns-in_ok-name-clause-reads c = object_found (rw c.ahead.ensures.same at c.in_ok-name.ensures.reads)

pub returns-in_ok-literal-clause-reads : goal.returns-in_ok-literal-clause-reads
returns-in_ok-literal-clause-reads c = literal_found (rw c.ahead.ensures.same at c.in_ok-literal.ensures.reads)
