use Rattle.std.proofs.Common.{refl}
use Rattle.std.proofs.lemmas.Result.{err_from_is_err_and}
use Rattle.program_commands.specs.Steps.{fails, goes_on}
use Rattle.trace_tool.proofs.any_machine.runs.load.Goals as goal

pub returns-in_err-meta-clause-loading : goal.returns-in_err-meta-clause-loading
returns-in_err-meta-clause-loading g c =
    let p = err_from_is_err_and c.from_residual.result c.from_residual.ensures.1 in
    rw (p.1, p.2) (fails _ c.in_err-meta.ensures)

pub returns-in_err-events-clause-loading : goal.returns-in_err-events-clause-loading
returns-in_err-events-clause-loading g c =
    let p = err_from_is_err_and c.from_residual-in_err-events.result c.from_residual-in_err-events.ensures.1 in
    rw (p.1, p.2) (goes_on c.in_ok-meta.meta _ c.in_ok-meta.ensures (fails _ c.in_err-events.ensures))

pub returns-in_err-fitting-clause-loading : goal.returns-in_err-fitting-clause-loading
returns-in_err-fitting-clause-loading g c =
    let p = err_from_is_err_and c.from_residual-in_err-fitting.result c.from_residual-in_err-fitting.ensures.1 in
    rw (p.1, p.2)
    (goes_on c.in_ok-meta.meta _ c.in_ok-meta.ensures (goes_on c.in_ok-events.events _ c.in_ok-events.ensures (fails _ c.in_err-fitting.ensures.exact)))

pub returns-clause-loading : goal.returns-clause-loading
returns-clause-loading g c =
    goes_on c.in_ok-meta.meta _ c.in_ok-meta.ensures (goes_on c.in_ok-events.events _ c.in_ok-events.ensures
    (goes_on tt _ c.in_ok-fitting.ensures.exact refl))

pub returns-clause-promises : goal.returns-clause-promises
returns-clause-promises g c = c.in_ok-fitting.ensures.promises
