use Rattle.basic_types.specs.Values.{object_has}
use Rattle.expressions.proofs.Typed.{typed_has_value}
use Rattle.expressions.proofs.typing.typed_have_values.Goals as goal

pub returns-clause-values : goal.returns-clause-values
returns-clause-values g c = λ class. typed_has_value class (g.C.Classes.below c.args.classes.now) (g.W.World.read c.args.world.now) (g.N.Names.types c.args.names.now)

pub returns-clause-this : goal.returns-clause-this
returns-clause-this g c = λ class object own declaring is under. object_has is under
