use Rattle.meta_objects.proofs.Refusals.{told}
use Rattle.meta_objects.proofs.loading.MetaFromProgram.build.Goals as goal

pub returns-in_err-meta : goal.returns-in_err-meta
returns-in_err-meta c = told _ _ c.in_err-meta.ensures _ c.from_residual.ensures.0 c.from_residual.ensures.1
