use Rattle.std.proofs.Common.{subst}
use Rattle.rank_check.specs.Checks.{Denial, IsCause}
use Rattle.rank_check.proofs.denied.Denied.cause.Goals as goal

pub returns-clause-breaks : goal.returns-clause-breaks
returns-clause-breaks c =
    subst (λ (denial : Denial). IsCause denial.program denial.certificate c.self.inside.cause) c.self.view_is c.self.invariant
