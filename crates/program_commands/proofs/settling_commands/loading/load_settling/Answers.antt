use Rattle.std.proofs.Common.{refl}
use Rattle.std.proofs.lemmas.Result.{err_from_is_err_and}
use Rattle.program_commands.specs.Steps.{fails, goes_on}
use Rattle.program_commands.proofs.settling_commands.loading.load_settling.Goals as goal

pub returns-in_err-meta : goal.returns-in_err-meta
returns-in_err-meta c =
    let p = err_from_is_err_and c.from_residual.result c.from_residual.ensures.1 in
    rw (p.1, p.2) (fails _ c.in_err-meta.ensures)

pub returns-in_err-certificate : goal.returns-in_err-certificate
returns-in_err-certificate c =
    let p = err_from_is_err_and c.from_residual-in_err-certificate.result c.from_residual-in_err-certificate.ensures.1 in
    rw (p.1, p.2) (goes_on c.in_ok-meta.meta _ c.in_ok-meta.ensures (fails _ c.in_err-certificate.ensures))

pub returns : goal.returns
returns c = goes_on c.in_ok-meta.meta _ c.in_ok-meta.ensures (goes_on c.in_ok-certificate.certificate _ c.in_ok-certificate.ensures refl)
