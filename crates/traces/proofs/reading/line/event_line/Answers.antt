use Rattle.std.proofs.Common.{refl, Some, None, sym, subst}
use Rattle.traces.proofs.Telling.{end_too_large, ends_accepted, ends_refused}
use Rattle.traces.specs.Lines.{TellsEnd}
use Rattle.traces.proofs.reading.line.event_line.Goals as goal

pub returns-in_err-event : goal.returns-in_err-event
returns-in_err-event c = subst (TellsEnd c.args.text.now) (sym c.from_residual.ensures) (end_too_large c.args.text.now c.cut_word.result.0.now c.cut_word.result.1 c.cut_word.ensures c.in_err-event.ensures)

pub returns-in_default : goal.returns-in_default
returns-in_default c = ends_accepted c.args.text.now c.cut_word.result.0.now c.cut_word.result.1 c.cut_word.ensures c.in_ok-event.event c.in_default.is c.in_ok-event.ensures.0 c.in_ok-event.ensures.1

pub returns-in_err-reason : goal.returns-in_err-reason
returns-in_err-reason c = ends_refused c.args.text.now c.cut_word.result.0.now c.cut_word.result.1 c.cut_word.ensures c.in-Some.rest c.in_ok-event.event None c.from_residual-in_err-reason.result c.in-Some.is c.in_ok-event.ensures.0 c.in_ok-event.ensures.1 c.in_err-reason.ensures c.from_residual-in_err-reason.ensures

pub returns : goal.returns
returns c = ends_refused c.args.text.now c.cut_word.result.0.now c.cut_word.result.1 c.cut_word.ensures c.in-Some.rest c.in_ok-event.event (Some c.in_ok-reason.reason) _ c.in-Some.is c.in_ok-event.ensures.0 c.in_ok-event.ensures.1 c.in_ok-reason.ensures refl
