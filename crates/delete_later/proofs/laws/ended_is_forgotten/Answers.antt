use Rattle.delete_later.proofs.Forgotten.{ended_forgotten}
use Rattle.delete_later.proofs.laws.ended_is_forgotten.Goals as goal

pub returns : goal.returns
returns c = ended_forgotten
