use Rattle.script_lang.specs.declared.event.Input.TheVariants as input
use Rattle.machine_rules.specs.Judgement.{gives, goes_on}
use Rattle.object_machine.specs.Events.{value}
use Rattle.object_machine.proofs.Judged.{then-ends, err-is, short-is}
use Rattle.object_machine.proofs.Judging.Naming.{living-ok}
use Rattle.object_machine.proofs.values.read_input.Goals as goal

pub returns-in_err-value-in-Literal-clause-refused : goal.returns-in_err-value-in-Literal-clause-refused
returns-in_err-value-in-Literal-clause-refused c = short-is (value c.args.world.now.store.tree c.args.input.now) c.from_residual.result c.from_residual.ensures.1

pub returns-in_err-object-in-Object-clause-refused : goal.returns-in_err-object-in-Object-clause-refused
returns-in_err-object-in-Object-clause-refused c =
    rw c.in-Object.is (err-is {Judged = value c.args.world.now.store.tree (input.Object c.in-Object.name)} c.from_residual-in_err-object-in-Object.result (then-ends c.in_err-object-in-Object.ensures.refused) c.from_residual-in_err-object-in-Object.ensures.1)

pub returns-in_ok-value-in-Literal-clause-value : goal.returns-in_ok-value-in-Literal-clause-value
returns-in_ok-value-in-Literal-clause-value c = rw (c.in-Literal.is, c.in_ok-value-in-Literal.ensures) gives

pub returns-in_ok-object-in-Object-clause-value : goal.returns-in_ok-object-in-Object-clause-value
returns-in_ok-object-in-Object-clause-value c = rw (c.in-Object.is, c.new.ensures) (goes_on _ (living-ok _ c.in_ok-object-in-Object.ensures.found) gives)
