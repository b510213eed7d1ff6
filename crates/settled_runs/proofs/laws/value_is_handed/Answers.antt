use Rattle.meta_model.specs.declared.object.Statement.TheViews.{out-Statement}
use Rattle.settled_runs.proofs.Handing.{handed}
use Rattle.settled_runs.proofs.laws.value_is_handed.Goals as goal

pub returns : goal.returns
returns c = λ objects o arguments first s done at hands is. handed objects o arguments first at (out-Statement s) done hands is
