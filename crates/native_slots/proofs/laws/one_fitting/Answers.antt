use Rattle.native_slots.proofs.OnlyFitting.{one_fitting}
use Rattle.native_slots.proofs.Telling.{one_misfit}
use Rattle.native_slots.proofs.laws.one_fitting.Goals as goal

pub returns-clause-fitting : goal.returns-clause-fitting
returns-clause-fitting c = one_fitting

pub returns-clause-misfit : goal.returns-clause-misfit
returns-clause-misfit c = one_misfit
