use Rattle.std.proofs.Common.{◌≡◌, sym}
use Rattle.machine_rules.specs.Natives.{emit_shown}
use Rattle.machine_state.specs.Objects.{all_shown}
use Rattle.run_context.proofs.Told.{field-told, member-told}
use Rattle.run_context.proofs.context.RunContext.show_action.Goals as goal

pub unreachable-requires-in_default-field : goal.unreachable-requires-in_default-field
unreachable-requires-in_default-field c = field-told _ _ _ _ _ c.requires.within.is c.in-Set.is c.in-Some.ensures.value c.in_default-field.ensures

pub unreachable-requires-in_default-member : goal.unreachable-requires-in_default-member
unreachable-requires-in_default-member c = member-told _ _ _ _ _ c.requires.within.is c.in-Emit.is c.in-Some-get.ensures.value c.in_default-member.ensures

pub returns-in_ok-arguments-in-Emit : goal.returns-in_ok-arguments-in-Emit
returns-in_ok-arguments-in-Emit c =
    let signal : c.in_ok-signal-in-Emit.signal ≡ c.in-Some-member.declared.now.sig.name = cc (c.in_ok-signal-in-Emit.ensures, c.deref.ensures) in
    let arguments : c.in_ok-arguments-in-Emit.arguments ≡ all_shown c.args.world.now.store.tree c.in-Emit.given = cc (c.in_ok-arguments-in-Emit.ensures, c.as_slice.ensures) in
    rw (c.in-Emit.is, signal, arguments) (emit_shown (sym c.in-Some-get.ensures.value) c.in-Some-member.ensures)
