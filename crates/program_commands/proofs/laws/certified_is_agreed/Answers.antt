use Rattle.program_commands.proofs.Agreeing.{certified_is_agreed}
use Rattle.program_commands.proofs.laws.certified_is_agreed.Goals as goal

pub returns : goal.returns
returns c = certified_is_agreed
