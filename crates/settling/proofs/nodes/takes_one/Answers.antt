use Rattle.settling.proofs.Handing.{no}
use Rattle.settling.proofs.nodes.takes_one.Goals as goal

pub returns-in_default : goal.returns-in_default
returns-in_default c = no (λ t. c.in_default.ensures.value t.method t.is)
