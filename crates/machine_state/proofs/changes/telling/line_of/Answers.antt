use Rattle.std.proofs.Common.{ℕ, List, ap, ◌∙◌}
use Rattle.trace_entries.specs.declared.entry.Entry.TheVariants.{At}
use Rattle.machine_state.specs.Telling.{entry_kind_of}
use Rattle.machine_state.proofs.Ahead.{told-ahead}
use Rattle.machine_state.proofs.changes.telling.line_of.Goals as goal

pub returns : goal.returns
returns c = λ new differ has.
    let object = c.in-Some.object.now in
    let property = c.in-Some-property.property.now in
    told-ahead c.args.tree.now new differ c.args.meta.now c.args.depth c.args.cause c.args.place.now object c.in-Some.life.now c.in-Some-object.class.now property c.args.value.now _ has c.in-Some.ensures.value c.in-Some-object.ensures.value c.in-Some-property.ensures.value
    (ap (At c.args.depth) (
    c.entry_kind-what.ensures
    ∙ ap (λ (name : List ℕ). entry_kind_of c.args.cause name c.in_ok-copy-2.field-0 c.in_ok-value.value) c.in_ok-copy.ensures
    ∙ ap (λ (name : List ℕ). entry_kind_of c.args.cause object.name name c.in_ok-value.value) c.in_ok-copy-2.ensures
    ∙ ap (entry_kind_of c.args.cause object.name property.name) c.in_ok-value.ensures))
