use Rattle.program_commands.proofs.Makings.{one_making}
use Rattle.program_commands.proofs.certificate_laws.laws.one_making.Goals as goal

pub returns : goal.returns
returns c = one_making
