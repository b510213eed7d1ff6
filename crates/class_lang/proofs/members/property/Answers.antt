use Rattle.class_lang.proofs.Sequences.{property_found}
use Rattle.class_lang.proofs.members.property.Goals as goal

pub returns-clause-reads : goal.returns-clause-reads
returns-clause-reads c = property_found c.in_ok-kind.ensures.reads c.in_ok-name.ensures.reads c.in_ok-initial.ensures.reads c.in_ok-notify.ensures.reads c.in_ok-expect.ensures.found
