use Rattle.class_lang.proofs.Sequences.{wire_found}
use Rattle.class_lang.proofs.declarations.wire.Goals as goal

pub returns-clause-reads : goal.returns-clause-reads
returns-clause-reads c = wire_found c.in_ok-sender.ensures.reads c.in_ok-expect.ensures.found c.in_ok-receiver.ensures.reads c.in_ok-kind.ensures.reads c.in_ok-expect-2.ensures.found
