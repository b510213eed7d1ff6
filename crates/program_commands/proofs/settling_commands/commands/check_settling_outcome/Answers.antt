use Rattle.std.proofs.Common.{refl}
use Rattle.program_commands.specs.Steps.{fails, goes_on}
use Rattle.program_commands.proofs.settling_commands.commands.check_settling_outcome.Goals as goal

pub returns-in-Ok : goal.returns-in-Ok
returns-in-Ok c = goes_on c.in-Ok.checked _ c.in-Ok.ensures refl

pub returns-in-Err : goal.returns-in-Err
returns-in-Err c = fails c.in-Err.refusal c.in-Err.ensures
