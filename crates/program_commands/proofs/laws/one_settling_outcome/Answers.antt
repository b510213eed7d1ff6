use Rattle.program_commands.proofs.SettlingOnce.{one_settling_certifying, one_settling_check}
use Rattle.program_commands.proofs.laws.one_settling_outcome.Goals as goal

pub returns-clause-certify : goal.returns-clause-certify
returns-clause-certify c = one_settling_certifying

pub returns-clause-check : goal.returns-clause-check
returns-clause-check c = one_settling_check
