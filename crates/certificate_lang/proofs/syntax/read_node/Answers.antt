use Rattle.certificate_lang.proofs.Nodes.{destruction_found, of_class_found}
use Rattle.certificate_lang.proofs.syntax.read_node.Goals as goal

pub returns-then-eat-clause-reads : goal.returns-then-eat-clause-reads
returns-then-eat-clause-reads c = destruction_found c.if-eat.ensures.found c.in_ok-class.ensures.reads

pub returns-clause-reads : goal.returns-clause-reads
returns-clause-reads c =
    of_class_found c.if-eat.ensures.found.1 (rw c.if-eat.ensures.found.0 at c.in_ok-class-2.ensures.reads) c.in_ok-expect.ensures.found c.in_ok-member.ensures.reads
