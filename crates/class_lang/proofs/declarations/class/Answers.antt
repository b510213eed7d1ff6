use Rattle.class_lang.proofs.Sequences.{class_found}
use Rattle.class_lang.proofs.declarations.class.Goals as goal

pub returns-clause-reads : goal.returns-clause-reads
returns-clause-reads c = class_found c.in_ok-name.ensures.reads c.in_ok-base.ensures.reads c.in_ok-expect.ensures.found c.in_ok-class.ensures.reads c.eat.result c.eat.ensures.found
