use Rattle.machine_state.proofs.Told.{taken-off}
use Rattle.machine_state.proofs.changes.telling.Telling.note.Goals as goal

pub returns-in-Err-clause-err : goal.returns-in-Err-clause-err
returns-in-Err-clause-err c = taken-off c.args.trace.now c.add_change.new.trace c.keep_first.new.self c.len-told.result c.len-told.ensures c.in-Err.ensures.err c.keep_first.ensures
