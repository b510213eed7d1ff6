use Rattle.certificate_lang.proofs.Items.{class_reads, closure_found}
use Rattle.certificate_lang.proofs.syntax.item.Goals as goal

pub returns-in-One-clause-reads : goal.returns-in-One-clause-reads
returns-in-One-clause-reads c = class_reads c.args.version _ _ (λ two. let one = c.in-One.is in cc) c.class_item.result c.class_item.ensures.reads

pub returns-then-not-eat-clause-reads : goal.returns-then-not-eat-clause-reads
returns-then-not-eat-clause-reads c =
    let off = c.if-not-eat.ensures.found in
    class_reads c.args.version _ _ (λ two. off.1) c.class_item-then-not-eat.result (rw off.0 at c.class_item-then-not-eat.ensures.reads)

pub returns-in_ok-class-in-Two-clause-reads : goal.returns-in_ok-class-in-Two-clause-reads
returns-in_ok-class-in-Two-clause-reads c = closure_found c.args.version c.if-not-eat.ensures.found c.in-Two.is c.in_ok-class-in-Two.ensures.reads
