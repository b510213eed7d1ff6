use Rattle.settling.proofs.Rounds.{set_settles}
use Rattle.settling.proofs.laws.sets_settle.Goals as goal

pub returns : goal.returns
returns c = λ p certificate valid set there. set_settles valid set there
