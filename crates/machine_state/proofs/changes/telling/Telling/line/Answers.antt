use Rattle.std.proofs.Common.{sym}
use Rattle.std.proofs.lemmas.Result.{IfOk-weaker}
use Rattle.prop_bindings.specs.Plans.{after}
use Rattle.trace_entries.specs.declared.entry.Entry.{Entry}
use Rattle.machine_state.specs.Telling.{IsTold, IsToldWith}
use Rattle.machine_state.proofs.Told.{told-now}
use Rattle.machine_state.proofs.changes.telling.Telling.line.Goals as goal

pub returns : goal.returns
returns c =
    let self = c.args.self.now in
    let new = after self.planned.now self.tree.now in
    let cause = c.args.cause in
    let at = c.args.place.now in
    let v = c.in-Some.value.now in
    IfOk-weaker c.line_with.result (IsToldWith self.meta.now new self.depth cause at v) (IsTold self.meta.now new self.depth cause at)
    (λ (entry : Entry) told. told-now self.meta.now new self.depth cause at v entry (sym c.in-Some.ensures) told) c.line_with.ensures
