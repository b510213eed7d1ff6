use Rattle.std.proofs.Common.{[], sym, ◌∙◌}
use Rattle.script_lang.specs.declared.event.Event.TheVariants.{Disconnect}
use Rattle.machine_state.specs.Worlds.{at}
use Rattle.object_machine.specs.code.Judgement.{refused}
use Rattle.object_machine.specs.Events.{judged}
use Rattle.object_machine.proofs.Judged.{then-ends, err-is}
use Rattle.object_machine.proofs.Judging.Connecting.{no-connection, disconnects}
use Rattle.object_machine.proofs.connecting.judge_disconnect.Goals as goal

pub returns-in_err-found-clause-refused : goal.returns-in_err-found-clause-refused
returns-in_err-found-clause-refused c =
    err-is {Judged = judged c.args.context.now.meta (at c.args.world.now []) (Disconnect c.args.named.now)} c.from_residual.result (then-ends c.in_err-found.ensures.refused) c.from_residual.ensures.1

pub returns-then-not-are_joined-clause-refused : goal.returns-then-not-are_joined-clause-refused
returns-then-not-are_joined-clause-refused c =
    refused (no-connection c.args.context.now.meta (at c.args.world.now []) c.args.named.now c.in_ok-found.found c.in_ok-found.ensures.found (λ is. absurd (cc (c.are_joined.ensures, c.if-not-are_joined.true, is))))

pub returns-clause-accepted : goal.returns-clause-accepted
returns-clause-accepted c =
    disconnects c.args.context.now.meta (at c.args.world.now []) c.args.named.now c.in_ok-found.found c.in_ok-found.ensures.found (sym c.are_joined.ensures ∙ c.if-not-are_joined.false)
