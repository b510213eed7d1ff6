use Rattle.std.proofs.Common.{◌≡◌, List, ℕ, take, Ok, Err, IfSome, subst, sym}
use Rattle.program_commands.specs.Steps.{fails}
use Rattle.command_lines.specs.declared.input.InputFault.TheVariants.{Memory}
use Rattle.trace_tool.proofs.Preparing.{carried-as, carried-of, carried-at-once, unread-left, usage-left}
use Rattle.trace_tool.proofs.Reading.{read-comes, unread-comes}
use Rattle.trace_tool.proofs.any_machine.command_line.answer.Goals as goal

-- words that are no command
pub carry_out-requires : goal.carry_out-requires
carry_out-requires g c = rw c.prepared_usage.ensures tt

pub returns-in_default-clause-answers : goal.returns-in_default-clause-answers
returns-in_default-clause-answers g c =
    carried-at-once _ _ c.prepared_usage.ensures (record { input = Err Memory; reads = tt; comes = fails tt c.in_default.ensures.said }) c.carry_out.ensures

pub returns-in_default-clause-failed : goal.returns-in_default-clause-failed
returns-in_default-clause-failed g c = usage-left g.M.ObjectMachine.seen _ c.carry_out.result.outcome _ c.prepared_usage.ensures c.carry_out.ensures

-- an input was read
pub carry_out-carried-requires : goal.carry_out-carried-requires
carry_out-carried-requires g c = c.prepare_for.ensures.may

pub returns-in-Ok-clause-answers : goal.returns-in-Ok-clause-answers
returns-in-Ok-clause-answers g c =
    let left = g.R.Read.remaining c.args.reader.now in
    let reads = subst (λ (xs : List ℕ). IfSome left (λ all. xs ≡ take 67108865 all)) (sym c.as_slice.ensures.value) c.in-Ok.ensures.input in
    carried-as (λ end comes. record { input = Ok c.as_slice.result.now; reads = reads; comes = comes }) (carried-of c.prepare_for.ensures c.carry_out-carried.ensures)

pub returns-in-Ok-clause-failed : goal.returns-in-Ok-clause-failed
returns-in-Ok-clause-failed g c =
    unread-left g.M.ObjectMachine.seen c.carry_out-carried.result.outcome _ (carried-of c.prepare_for.ensures c.carry_out-carried.ensures) (λ end comes. read-comes _ comes)

-- .. or it can't be
pub returns-in-Err-clause-answers : goal.returns-in-Err-clause-answers
returns-in-Err-clause-answers g c =
    carried-as (λ end comes. record { input = Err c.in-Err.fault; reads = tt; comes = comes }) (carried-of c.prepare_for-in-Err.ensures c.carry_out-in-Err.ensures)

pub returns-in-Err-clause-failed : goal.returns-in-Err-clause-failed
returns-in-Err-clause-failed g c =
    unread-left g.M.ObjectMachine.seen c.carry_out-in-Err.result.outcome _ (carried-of c.prepare_for-in-Err.ensures c.carry_out-in-Err.ensures) (λ end comes. unread-comes _ _ c.in-Err.ensures.faults comes)

-- the words are a command line
pub returns-in-Ok-clause-unread : goal.returns-in-Ok-clause-unread
returns-in-Ok-clause-unread g c = λ none. absurd (none c.in-Some.field-0 c.in-Some.ensures.said)

pub returns-in-Err-clause-unread : goal.returns-in-Err-clause-unread
returns-in-Err-clause-unread g c = λ none. absurd (none c.in-Some.field-0 c.in-Some.ensures.said)
