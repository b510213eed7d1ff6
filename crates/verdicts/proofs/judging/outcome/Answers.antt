use Rattle.verdicts.proofs.judging.outcome.Goals as goal

pub returns-in-None : goal.returns-in-None
returns-in-None c = rw c.in-None.is c.certificate_outcome.ensures
