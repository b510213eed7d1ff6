use Rattle.machine_rules.specs.Writing.{missing}
use Rattle.rule_interpreter.proofs.Writes.{fits-or-not}
use Rattle.rule_interpreter.proofs.interpreter.Interpreter.fits.Goals as goal

pub returns-in-None : goal.returns-in-None
returns-in-None g c = missing c.in-None.ensures

pub returns-in-Some : goal.returns-in-Some
returns-in-Some g c = fits-or-not c.args.value.now c.has_type.result c.in-Some.ensures c.has_type.ensures
