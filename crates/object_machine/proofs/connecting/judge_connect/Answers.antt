use Rattle.std.proofs.Common.{[]}
use Rattle.script_lang.specs.declared.event.Event.TheVariants.{Connect}
use Rattle.machine_state.specs.Worlds.{at}
use Rattle.machine_rules.specs.Judgement.{gives, goes_on, ends}
use Rattle.object_machine.specs.code.Judgement.{refused}
use Rattle.object_machine.specs.Events.{judged}
use Rattle.object_machine.proofs.Judged.{then-ends, err-is}
use Rattle.object_machine.proofs.connecting.judge_connect.Goals as goal

pub returns-in_err-found-clause-refused : goal.returns-in_err-found-clause-refused
returns-in_err-found-clause-refused c =
    err-is {Judged = judged c.args.context.now.meta (at c.args.world.now []) (Connect c.args.named.now c.args.how)} c.from_residual.result (then-ends c.in_err-found.ensures.refused) c.from_residual.ensures.1

pub returns-in-Ok-clause-accepted : goal.returns-in-Ok-clause-accepted
returns-in-Ok-clause-accepted c = goes_on c.in_ok-found.found c.in_ok-found.ensures.found (goes_on tt (rw (c.in-Ok.is, c.deref.ensures, c.deref-2.ensures) at c.may_connect.ensures) gives)

pub returns-in-Err-clause-refused : goal.returns-in-Err-clause-refused
returns-in-Err-clause-refused c = refused (goes_on c.in_ok-found.found c.in_ok-found.ensures.found (ends (rw (c.in-Err.is, c.deref.ensures, c.deref-2.ensures) at c.may_connect.ensures)))
