use Rattle.program_commands.proofs.NamesLoading.{loaded_is_named}
use Rattle.program_commands.proofs.certificate_laws.names.laws.loaded_names.Goals as goal

pub returns : goal.returns
returns c = loaded_is_named
