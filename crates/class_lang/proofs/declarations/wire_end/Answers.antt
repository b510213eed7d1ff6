use Rattle.class_lang.proofs.Sequences.{end_found}
use Rattle.class_lang.proofs.declarations.wire_end.Goals as goal

pub returns-clause-reads : goal.returns-clause-reads
returns-clause-reads c = end_found c.in_ok-class.ensures.reads c.in_ok-sig.ensures.reads
