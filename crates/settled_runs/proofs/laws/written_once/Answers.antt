use Rattle.settled_runs.proofs.Keeping.{written-once}
use Rattle.settled_runs.proofs.laws.written_once.Goals as goal

pub returns : goal.returns
returns c = λ p certificate cost classes objects top levels carried place costs are have is lives other. written-once p cost classes objects costs top levels are have carried place is lives other
