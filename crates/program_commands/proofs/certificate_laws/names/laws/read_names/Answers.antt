use Rattle.program_commands.proofs.Reading.{read_is_named}
use Rattle.program_commands.proofs.certificate_laws.names.laws.read_names.Goals as goal

pub returns : goal.returns
returns c = read_is_named
