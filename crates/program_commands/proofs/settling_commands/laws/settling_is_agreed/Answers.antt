use Rattle.program_commands.proofs.SettlingAgreeing.{settling_is_agreed}
use Rattle.program_commands.proofs.settling_commands.laws.settling_is_agreed.Goals as goal

pub returns : goal.returns
returns c = settling_is_agreed
