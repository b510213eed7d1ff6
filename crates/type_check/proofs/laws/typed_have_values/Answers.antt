use Rattle.type_check.proofs.Values.{site_has, body_has, arguments_have}
use Rattle.type_check.proofs.laws.typed_have_values.Goals as goal

pub returns-clause-bodies : goal.returns-clause-bodies
returns-clause-bodies c = λ classes me types read paths. body_has c.args.meta.now c.classes-classes.ensures.sound classes me types read paths

pub returns-clause-arguments : goal.returns-clause-arguments
returns-clause-arguments c = λ classes me types read paths. arguments_have c.args.meta.now c.classes-classes.ensures.sound classes me types read paths

pub returns-clause-bindings : goal.returns-clause-bindings
returns-clause-bindings c = λ classes site read sources typed property is. site_has c.args.meta.now c.classes-classes.ensures.sound classes site read sources typed property is
