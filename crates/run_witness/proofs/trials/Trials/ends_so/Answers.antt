use Rattle.std.proofs.Common.{IsTrue, subst}
use Rattle.run_witness.proofs.Showing.{prepared-shows}
use Rattle.run_witness.proofs.trials.Trials.ends_so.Goals as goal

pub outcome-came-requires : goal.outcome-came-requires
outcome-came-requires g c = c.prepare_unchecked_run-prepared.ensures.may

pub returns : goal.returns
returns g c = λ shown. prepared-shows _ _ _ _ _ _ c.outcome-came.result c.prepare_unchecked_run-prepared.ensures c.outcome-came.ensures (subst IsTrue c.shows_fault.ensures shown)
