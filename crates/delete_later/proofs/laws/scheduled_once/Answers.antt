use Rattle.delete_later.proofs.Scheduled.{once}
use Rattle.delete_later.proofs.laws.scheduled_once.Goals as goal

pub returns : goal.returns
returns c = once
