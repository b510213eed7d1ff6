use Rattle.traces.proofs.Laying.{none_of_script, of_event}
use Rattle.traces.proofs.pages.laid_out.statement_of.Goals as goal

pub returns-in_err-event : goal.returns-in_err-event
returns-in_err-event c = none_of_script c.args.statements.now c.args.line.now c.event.result c.from_residual.result c.in_err-event.was c.from_residual.ensures c.event.ensures

pub returns : goal.returns
returns c = of_event c.args.statements.now c.args.line.now c.in_ok-event.event c.line.result c.in_ok-event.ensures c.line.ensures
