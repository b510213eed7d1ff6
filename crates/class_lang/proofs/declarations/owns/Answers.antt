use Rattle.class_lang.proofs.Sequences.{owns_found}
use Rattle.class_lang.proofs.declarations.owns.Goals as goal

pub returns-clause-reads : goal.returns-clause-reads
returns-clause-reads c = owns_found c.in_ok-parent.ensures.reads c.in_ok-child.ensures.reads c.in_ok-expect.ensures.found
