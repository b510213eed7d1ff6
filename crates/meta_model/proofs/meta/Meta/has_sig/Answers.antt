use Rattle.meta_model.proofs.meta.Meta.has_sig.Goals as goal

pub returns-in-None : goal.returns-in-None
returns-in-None c = (λ t. absurd (cc), λ h. absurd (c.in-None.ensures.value h.method h.is))
