use Rattle.settled_runs.proofs.Dying.{deaths-keep}
use Rattle.settled_runs.proofs.laws.deaths_keep.Goals as goal

pub returns : goal.returns
returns c = λ p certificate cost classes old new levels died. deaths-keep died p cost classes levels
