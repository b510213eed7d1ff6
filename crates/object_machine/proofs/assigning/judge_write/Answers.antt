use Rattle.std.proofs.Common.{[]}
use Rattle.script_lang.specs.declared.event.Event.TheVariants.{Set}
use Rattle.machine_state.specs.Worlds.{at}
use Rattle.object_machine.specs.code.Judgement.{refused}
use Rattle.object_machine.specs.Events.{judged}
use Rattle.object_machine.proofs.Judged.{then-ends, err-is}
use Rattle.object_machine.proofs.Judging.Assigning.{no-property, no-value, bad-value, writes-to}
use Rattle.object_machine.proofs.assigning.judge_write.Goals as goal

pub returns-in_err-object-clause-refused : goal.returns-in_err-object-clause-refused
returns-in_err-object-clause-refused c =
    err-is {Judged = judged c.args.context.now.meta (at c.args.world.now []) (Set c.args.name.now c.args.property.now c.args.input.now)} c.from_residual.result (then-ends c.in_err-object.ensures.refused) c.from_residual.ensures.1

pub returns-in_default-clause-refused : goal.returns-in_default-clause-refused
returns-in_default-clause-refused c = refused (no-property c.args.context.now.meta c.args.world.now c.args.name.now c.args.property.now c.args.input.now _ c.in_ok-object.ensures.found c.in_default.ensures)

pub returns-in_err-value-clause-refused : goal.returns-in_err-value-clause-refused
returns-in_err-value-clause-refused c =
    err-is {Judged = judged c.args.context.now.meta (at c.args.world.now []) (Set c.args.name.now c.args.property.now c.args.input.now)} c.from_residual-in_err-value.result
    (no-value c.args.context.now.meta c.args.world.now c.args.name.now c.args.property.now c.args.input.now _ c.in_ok-object.ensures.found _ c.in-Some.ensures c.in_err-value.ensures.refused) c.from_residual-in_err-value.ensures.1

pub returns-then-has_type-clause-accepted : goal.returns-then-has_type-clause-accepted
returns-then-has_type-clause-accepted c =
    rw c.new.ensures (writes-to c.args.context.now.meta c.args.world.now c.args.name.now c.args.property.now c.args.input.now _ c.in_ok-object.ensures.found _ c.in-Some.ensures _ c.in_ok-value.ensures.value (c.has_type.ensures.0 c.if-has_type.true))

pub returns-else-has_type-clause-refused : goal.returns-else-has_type-clause-refused
returns-else-has_type-clause-refused c =
    refused (bad-value c.args.context.now.meta c.args.world.now c.args.name.now c.args.property.now c.args.input.now _ c.in_ok-object.ensures.found _ c.in-Some.ensures _ c.in_ok-value.ensures.value (λ fits. absurd (cc (c.has_type.ensures.1 fits, c.if-has_type.false))))
