use Rattle.token_reading.proofs.NormalTypes.{types_are_normal, others_are_refused}
use Rattle.token_reading.proofs.signature.one_normal_form_of_types.Goals as goal

pub returns-clause-normal : goal.returns-clause-normal
returns-clause-normal c = types_are_normal

pub returns-clause-refused : goal.returns-clause-refused
returns-clause-refused c = others_are_refused
