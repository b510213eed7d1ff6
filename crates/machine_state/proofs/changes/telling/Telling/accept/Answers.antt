use Rattle.std.proofs.Common.{[], ◌∷◌, ◌++◌, ◌∙◌}
use Rattle.std.proofs.lemmas.List.{append-nil}
use Rattle.trace_entries.specs.declared.entry.Entry.TheVariants.{Accepted}
use Rattle.machine_state.specs.code.Planned.{Extends}
use Rattle.machine_state.proofs.Told.{extends-more, taken-off}
use Rattle.machine_state.proofs.changes.telling.Telling.accept.Goals as goal

pub returns-in-Err-clause-err : goal.returns-in-Err-clause-err
returns-in-Err-clause-err c =
    let event : Extends c.args.trace.now c.accept.new.self = record { more = Accepted c.args.event ∷ []; are = c.in_ok-accept.ensures.ok ∙ append-nil (c.args.trace.now ++ Accepted c.args.event ∷ []) } in
    let all = extends-more c.args.trace.now c.accept.new.self c.add_change.new.trace event c.in-Err.ensures.err in
    taken-off c.args.trace.now c.add_change.new.trace c.keep_first.new.self c.len-told.result c.len-told.ensures all c.keep_first.ensures
