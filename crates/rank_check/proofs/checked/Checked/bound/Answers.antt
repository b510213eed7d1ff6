use Rattle.std.proofs.Common.{◌≤◌, ℕ, sym, subst}
use Rattle.rank_check.proofs.Conditions.{bound_some}
use Rattle.rank_check.proofs.checked.Checked.bound.Goals as goal

pub returns-clause-least : goal.returns-clause-least
returns-clause-least c =
    subst (λ (n : ℕ). 1 ≤ n) (sym c.self.invariant.2)
    (bound_some c.self.inside.meta c.self.inside.certificate.value c.classes-classes.ensures.sound c.self.invariant.0)
