use Rattle.token_reading.proofs.NormalTypes.{reference_as_value}
use Rattle.token_reading.proofs.signature.type_of.Goals as goal

pub returns-in-Reference : goal.returns-in-Reference
returns-in-Reference c = rw (c.value-in-Reference.ensures, c.in-Reference.is) (reference_as_value c.args.place c.args.name)
