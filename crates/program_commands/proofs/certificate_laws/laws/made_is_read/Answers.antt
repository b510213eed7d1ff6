use Rattle.program_commands.proofs.Writable.{made_is_read}
use Rattle.program_commands.proofs.certificate_laws.laws.made_is_read.Goals as goal

pub returns : goal.returns
returns c = made_is_read
