use Rattle.program_commands.proofs.Least.{one_least, one_made}
use Rattle.program_commands.proofs.certificate_laws.laws.one_least.Goals as goal

pub returns-clause-least : goal.returns-clause-least
returns-clause-least c = one_least

pub returns-clause-made : goal.returns-clause-made
returns-clause-made c = one_made
