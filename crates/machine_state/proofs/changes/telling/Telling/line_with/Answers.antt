use Rattle.std.proofs.lemmas.Result.{IfOk-weaker}
use Rattle.prop_bindings.specs.Plans.{after}
use Rattle.trace_entries.specs.declared.entry.Entry.{Entry}
use Rattle.machine_state.specs.Telling.{IsToldWith}
use Rattle.machine_state.specs.code.Planned.{WillBeTold}
use Rattle.machine_state.proofs.changes.telling.Telling.line_with.Goals as goal

pub returns : goal.returns
returns c =
    let self = c.args.self.now in
    let new = after self.planned.now self.tree.now in
    let cause = c.args.cause in
    let at = c.args.place.now in
    let v = c.args.value.now in
    IfOk-weaker c.line_of.result (WillBeTold self.meta.now self.tree.now self.depth cause at v) (IsToldWith self.meta.now new self.depth cause at v)
    (λ (entry : Entry) told. told new c.requires.differ c.requires.will_have) c.line_of.ensures
