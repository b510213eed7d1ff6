use Rattle.expressions.proofs.Typed.{accepted_has}
use Rattle.expressions.proofs.typing.accepts.Goals as goal

pub returns-clause-of_it : goal.returns-clause-of_it
returns-clause-of_it g c = λ is.
    accepted_has (g.C.Classes.below c.args.classes.now) (g.met.C.Classes.along c.args.classes.now) c.args.declared.now c.args.given.now (c.takes.ensures.0 is)
