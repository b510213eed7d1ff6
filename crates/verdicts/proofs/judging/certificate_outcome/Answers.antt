use Rattle.std.proofs.Common.{sym, ◌∙◌}
use Rattle.verdicts.specs.Settled.{settles, circles}
use Rattle.verdicts.proofs.judging.certificate_outcome.Goals as goal

pub returns-then-status-eq-FOUND : goal.returns-then-status-eq-FOUND
returns-then-status-eq-FOUND c =
    circles c.certify_outcome-certified.ensures (sym c.if-not-is_cycle.ensures) c.certify_settling_outcome-settled.result c.certify_settling_outcome-settled.ensures
    (sym c.status.ensures ∙ c.if-status-eq-FOUND.true)

pub returns-else-status-eq-FOUND : goal.returns-else-status-eq-FOUND
returns-else-status-eq-FOUND c =
    settles c.certify_outcome-certified.result c.certify_outcome-certified.ensures (sym c.if-not-is_cycle.ensures) c.certify_settling_outcome-settled.ensures
    (λ three. c.if-status-eq-FOUND.false (c.status.ensures ∙ three))
