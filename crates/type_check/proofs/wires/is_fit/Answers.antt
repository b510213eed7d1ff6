use Rattle.type_check.proofs.wires.is_fit.Goals as goal

pub returns-in_default : goal.returns-in_default
returns-in_default c = (λ t. absurd (cc), λ h. absurd (c.in_default.ensures.value h.signal h.from))

pub returns-in-None : goal.returns-in-None
returns-in-None c = (λ t. absurd (cc), λ h. absurd (c.in-None.ensures.value h.method h.to))
