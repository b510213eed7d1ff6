use Rattle.type_check.proofs.scope.BodyScope.accepts.Goals as goal

pub returns-in-None : goal.returns-in-None
returns-in-None c = (λ t. absurd (cc), λ h. absurd (c.in-None.ensures.value h.method h.is))
