use Rattle.std.proofs.Common.{◌∙◌}
use Rattle.certificate_lang.proofs.Nodes.{property_found, method_found}
use Rattle.certificate_lang.proofs.Certificates.{is_not_so}
use Rattle.certificate_lang.proofs.syntax.member.Goals as goal

pub returns-then-not-is_at_open-clause-reads : goal.returns-then-not-is_at_open-clause-reads
returns-then-not-is_at_open-clause-reads c =
    let other = is_not_so c.is_at_open.result c.if-not-is_at_open.true c.is_at_open.ensures in
    rw c.ahead.ensures.same (property_found c.in_ok-name.ensures.reads (λ after e. other (after, c.ahead.ensures.tokens ∙ e)))

pub returns-clause-reads : goal.returns-clause-reads
returns-clause-reads c = rw c.in_ok-sig.ensures (method_found c.in_ok-name.ensures.reads (rw c.ahead.ensures.same at c.in_ok-types.ensures.reads))
