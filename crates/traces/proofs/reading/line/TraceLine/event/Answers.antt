use Rattle.std.proofs.Common.{ap, refl, Some, None}
use Rattle.traces.proofs.Telling.{found_as, no_event}
use Rattle.traces.proofs.reading.line.TraceLine.event.Goals as goal

pub returns-in_err-event : goal.returns-in_err-event
returns-in_err-event c = found_as c.args.line.now c.of.result None c.from_residual.result c.in_err-event.was c.from_residual.ensures c.of.ensures.event

pub returns-in-Accepted : goal.returns-in-Accepted
returns-in-Accepted c = found_as c.args.line.now (Some c.in_ok-event.field-0) _ (Some c.in-Accepted.event) (ap Some c.in-Accepted.is) refl c.in_ok-event.ensures.event

pub returns-in-Refused : goal.returns-in-Refused
returns-in-Refused c = found_as c.args.line.now (Some c.in_ok-event.field-0) _ (Some c.in-Refused.event) (ap Some c.in-Refused.is) refl c.in_ok-event.ensures.event

pub returns-in-At : goal.returns-in-At
returns-in-At c = no_event c.args.line.now c.in_ok-event.field-0 c.in-At.is c.in_ok-event.ensures.event
