use Rattle.std.proofs.Common.{refl}
use Rattle.std.proofs.lemmas.Result.{err_from_is_err_and}
use Rattle.program_commands.specs.Steps.{fails, goes_on}
use Rattle.program_commands.proofs.settling_commands.loading.load_settled.Goals as goal

pub returns-in_err-meta : goal.returns-in_err-meta
returns-in_err-meta c =
    let p = err_from_is_err_and c.from_residual.result c.from_residual.ensures.1 in
    rw (p.1, p.2) (fails _ c.in_err-meta.ensures)

pub returns-in_err-checked : goal.returns-in_err-checked
returns-in_err-checked c =
    let p = err_from_is_err_and c.from_residual-in_err-checked.result c.from_residual-in_err-checked.ensures.1 in
    rw (p.1, p.2) (goes_on _ _ c.in_ok-meta.ensures (fails _ c.in_err-checked.ensures))

pub returns : goal.returns
returns c = goes_on _ _ c.in_ok-meta.ensures (goes_on c.in_ok-checked.checked _ c.in_ok-checked.ensures refl)
