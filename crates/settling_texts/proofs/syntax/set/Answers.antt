use Rattle.settling_texts.proofs.Lines.{set_found}
use Rattle.settling_texts.proofs.syntax.set.Goals as goal

pub returns : goal.returns
returns c = set_found c.in_ok-round.ensures c.in_ok-members.ensures
