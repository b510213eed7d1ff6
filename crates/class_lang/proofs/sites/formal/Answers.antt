use Rattle.class_lang.proofs.BindingSites.{formal_found}
use Rattle.class_lang.proofs.sites.formal.Goals as goal

pub returns-clause-reads : goal.returns-clause-reads
returns-clause-reads c = formal_found c.in_ok-class.ensures.reads c.in_ok-name.ensures.reads
