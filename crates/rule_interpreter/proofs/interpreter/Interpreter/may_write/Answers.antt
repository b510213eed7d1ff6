use Rattle.std.proofs.Common.{[], refl}
use Rattle.prop_bindings.specs.Changes.{one}
use Rattle.machine_rules.specs.Writing.{unfit}
use Rattle.rule_interpreter.proofs.Writes.{fits-one, unfit-one, written-may, unwritten-deep}
use Rattle.rule_interpreter.proofs.interpreter.Interpreter.may_write.Goals as goal

pub returns-then-not-fits-clause-err : goal.returns-then-not-fits-clause-err
returns-then-not-fits-clause-err g c = unfit (record { front = []; back = []; are = refl; fit = tt }) (unfit-one c.fits.ensures c.if-not-fits.true)

pub returns-clause-ok : goal.returns-clause-ok
returns-clause-ok g c = written-may c.args.self.now.context.meta c.args.self.now.context.depth c.args.active.now c.args.world.now.store.tree (one c.args.place.now c.args.value.now) c.may_nest.result (fits-one c.fits.ensures c.if-not-fits.false, tt) (rw c.count.ensures at c.may_nest.ensures)

pub returns-clause-err : goal.returns-clause-err
returns-clause-err g c = unwritten-deep c.args.self.now.context.meta c.args.self.now.context.depth c.args.active.now c.args.world.now.store.tree (one c.args.place.now c.args.value.now) c.may_nest.result (fits-one c.fits.ensures c.if-not-fits.false, tt) (rw c.count.ensures at c.may_nest.ensures)
