use Rattle.program_commands.proofs.Writable.{valid_is_writable}
use Rattle.program_commands.proofs.certificate_laws.laws.valid_is_writable.Goals as goal

pub returns : goal.returns
returns c = valid_is_writable
