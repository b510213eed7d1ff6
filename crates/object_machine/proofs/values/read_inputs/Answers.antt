use Rattle.std.proofs.Common.{◌≡◌, [], ◌∷◌, ◌++◌, ◌+◌, Ok, List, take, drop, sym, ap, ◌∙◌, subst, take-append-drop}
use Rattle.std.proofs.lemmas.List.{take_more, drop_more}
use Rattle.script_lang.specs.declared.event.Input.{Input}
use Rattle.basic_types.specs.declared.value.Value.{Value}
use Rattle.machine_rules.specs.Judgement.{gives}
use Rattle.object_machine.specs.code.Judgement.{IsNotAccepted}
use Rattle.object_machine.specs.Events.{values}
use Rattle.object_machine.proofs.Judged.{err-is, short-is}
use Rattle.object_machine.proofs.Judging.Reading.{values-snoc, values-end}
use Rattle.object_machine.proofs.values.read_inputs.Goals as goal

pub loop-input-init : goal.loop-input-init
loop-input-init c = rw c.new-values.ensures gives

pub returns-in_err-value-clause-refused : goal.returns-in_err-value-clause-refused
returns-in_err-value-clause-refused c =
    let front : List Input = take c.loop-input.input-index c.args.inputs.now in
    let rest : List Input = drop (c.loop-input.input-index + 1) c.args.inputs.now in
    let more = drop_more c.args.inputs.now c.loop-input.input-index c.input-item.result c.loop-input-test.true in
    let split : front ++ c.input-item.result ∷ rest ≡ c.args.inputs.now =
    ap (λ (l : List Input). front ++ l) (sym (rw (← c.input-item.is) at more)) ∙ take-append-drop c.loop-input.input-index c.args.inputs.now in
    let not = values-end c.args.world.now.store.tree front c.loop-input.values c.input-item.result rest c.in_err-value.field-0.0 c.loop-input.invariant c.in_err-value.ensures.refused in
    err-is c.from_residual.result (subst (λ (l : List Input). IsNotAccepted (values c.args.world.now.store.tree l) c.in_err-value.field-0.0) split not) c.from_residual.ensures.1

pub loop-input-preserved : goal.loop-input-preserved
loop-input-preserved c =
    let front : List Input = take c.loop-input.input-index c.args.inputs.now in
    let more = take_more c.args.inputs.now c.loop-input.input-index c.input-item.result c.loop-input-test.true in
    let item : Input = c.input-item.result in
    let after = values-snoc c.args.world.now.store.tree front c.loop-input.values item c.in_ok-value.value c.loop-input.invariant c.in_ok-value.ensures.value in
    let In : List Value → Type 0 = λ l. values c.args.world.now.store.tree (front ++ item ∷ []) (Ok l) in
    rw (more, ← c.input-item.is) (subst In (sym c.in_ok-push.ensures.ok) after)

pub returns-in_err-push-clause-refused : goal.returns-in_err-push-clause-refused
returns-in_err-push-clause-refused c = short-is (values c.args.world.now.store.tree c.args.inputs.now) c.from_residual-in_err-push.result c.from_residual-in_err-push.ensures.1
