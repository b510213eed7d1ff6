use Rattle.std.proofs.Common.{[]}
use Rattle.machine_state.specs.Worlds.{at}
use Rattle.object_machine.specs.code.Judgement.{refused}
use Rattle.object_machine.specs.Events.{invoke}
use Rattle.object_machine.proofs.Judged.{then-ends, err-is}
use Rattle.object_machine.proofs.Judging.Invoking.{no-method, no-values, bad-values, asks-for}
use Rattle.object_machine.proofs.invoking.judge_invocation.Goals as goal

pub returns-in_err-object-clause-refused : goal.returns-in_err-object-clause-refused
returns-in_err-object-clause-refused c =
    err-is {Judged = invoke c.args.context.now.meta (at c.args.world.now []) c.args.invocation c.args.name.now c.args.called.now c.args.inputs.now} c.from_residual.result (then-ends c.in_err-object.ensures.refused) c.from_residual.ensures.1

pub returns-in_default-clause-refused : goal.returns-in_default-clause-refused
returns-in_default-clause-refused c = refused (no-method c.args.context.now.meta c.args.world.now c.args.invocation c.args.name.now c.args.called.now c.args.inputs.now _ c.in_ok-object.ensures.found c.in_default.ensures)

pub returns-in_err-values-clause-refused : goal.returns-in_err-values-clause-refused
returns-in_err-values-clause-refused c =
    err-is {Judged = invoke c.args.context.now.meta (at c.args.world.now []) c.args.invocation c.args.name.now c.args.called.now c.args.inputs.now} c.from_residual-in_err-values.result
    (no-values c.args.context.now.meta c.args.world.now c.args.invocation c.args.name.now c.args.called.now c.args.inputs.now _ c.in_ok-object.ensures.found _ c.in-Some.ensures c.in_err-values.ensures.refused) c.from_residual-in_err-values.ensures.1

pub returns-then-have_types-clause-accepted : goal.returns-then-have_types-clause-accepted
returns-then-have_types-clause-accepted c =
    let fits = rw (c.as_slice.ensures, c.as_slice-2.ensures) at c.have_types.ensures in
    rw c.new.ensures (asks-for c.args.context.now.meta c.args.world.now c.args.invocation c.args.name.now c.args.called.now c.args.inputs.now _ c.in_ok-object.ensures.found _ c.in-Some.ensures _ c.in_ok-values.ensures.values (fits.0 c.if-have_types.true))

pub returns-else-have_types-clause-refused : goal.returns-else-have_types-clause-refused
returns-else-have_types-clause-refused c =
    let fits = rw (c.as_slice.ensures, c.as_slice-2.ensures) at c.have_types.ensures in
    refused (bad-values c.args.context.now.meta c.args.world.now c.args.invocation c.args.name.now c.args.called.now c.args.inputs.now _ c.in_ok-object.ensures.found _ c.in-Some.ensures _ c.in_ok-values.ensures.values (λ fit. absurd (cc (fits.1 fit, c.if-have_types.false))))
