use Rattle.std.proofs.Common.{refl}
use Rattle.std.proofs.lemmas.Result.{err_from_is_err_and}
use Rattle.program_commands.specs.Steps.{fails, goes_on}
use Rattle.trace_tool.proofs.Accepted.{unfit}
use Rattle.trace_tool.proofs.any_machine.runs.accept.Goals as goal

pub returns-in_err-meta-clause-accepting : goal.returns-in_err-meta-clause-accepting
returns-in_err-meta-clause-accepting g c =
    let p = err_from_is_err_and c.from_residual.result c.from_residual.ensures.1 in
    rw (p.1, p.2) (fails _ c.in_err-meta.ensures)

pub returns-in_err-events-clause-accepting : goal.returns-in_err-events-clause-accepting
returns-in_err-events-clause-accepting g c =
    let p = err_from_is_err_and c.from_residual-in_err-events.result c.from_residual-in_err-events.ensures.1 in
    rw (p.1, p.2) (goes_on _ _ c.in_ok-meta.ensures (fails _ c.in_err-events.ensures))

pub returns-in_err-checked-clause-accepting : goal.returns-in_err-checked-clause-accepting
returns-in_err-checked-clause-accepting g c =
    let p = err_from_is_err_and c.from_residual-in_err-checked.result c.from_residual-in_err-checked.ensures.1 in
    rw (p.1, p.2) (goes_on _ _ c.in_ok-meta.ensures (goes_on c.in_ok-events.events _ c.in_ok-events.ensures (fails _ c.in_err-checked.ensures)))

pub returns-in_err-fitting-clause-accepting : goal.returns-in_err-fitting-clause-accepting
returns-in_err-fitting-clause-accepting g c =
    let p = err_from_is_err_and c.from_residual-in_err-fitting.result c.from_residual-in_err-fitting.ensures.1 in
    rw (p.1, p.2)
    (goes_on _ _ c.in_ok-meta.ensures (goes_on c.in_ok-events.events _ c.in_ok-events.ensures
    (goes_on c.in_ok-checked.checked _ c.in_ok-checked.ensures
    (fails _ (unfit (g.N.FittingNatives.heads c.args.natives.now) _ c.meta.ensures.value c.in_err-fitting.ensures.exact)))))

pub returns-clause-accepting : goal.returns-clause-accepting
returns-clause-accepting g c =
    let fit = rw c.meta.ensures.value at c.in_ok-fitting.ensures.exact in
    goes_on _ _ c.in_ok-meta.ensures (goes_on c.in_ok-events.events _ c.in_ok-events.ensures
    (goes_on c.in_ok-checked.checked _ c.in_ok-checked.ensures (goes_on tt _ fit refl)))

pub returns-clause-promises : goal.returns-clause-promises
returns-clause-promises g c = rw c.meta.ensures.value at c.in_ok-fitting.ensures.promises
