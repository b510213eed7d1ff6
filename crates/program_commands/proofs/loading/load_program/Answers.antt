use Rattle.std.proofs.Common.{refl}
use Rattle.std.proofs.lemmas.Result.{err_from_is_err_and}
use Rattle.program_commands.specs.Steps.{fails, goes_on}
use Rattle.program_commands.proofs.loading.load_program.Goals as goal

pub returns-in_err-program : goal.returns-in_err-program
returns-in_err-program c =
    let p = err_from_is_err_and c.from_residual.result c.from_residual.ensures.1 in
    rw (p.1, p.2) (fails _ c.in_err-program.ensures)

pub returns-in_err-meta : goal.returns-in_err-meta
returns-in_err-meta c =
    let p = err_from_is_err_and c.from_residual-in_err-meta.result c.from_residual-in_err-meta.ensures.1 in
    rw (p.1, p.2) (goes_on c.in_ok-program.program _ c.in_ok-program.ensures (fails _ c.in_err-meta.ensures.0))

pub returns : goal.returns
returns c = goes_on c.in_ok-program.program _ c.in_ok-program.ensures (goes_on c.in_ok-meta.meta _ c.in_ok-meta.ensures refl)
