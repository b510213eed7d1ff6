use Rattle.program_commands.proofs.Once.{one_description, one_certifying, one_check}
use Rattle.program_commands.proofs.laws.one_outcome.Goals as goal

pub returns-clause-meta : goal.returns-clause-meta
returns-clause-meta c = one_description

pub returns-clause-certify : goal.returns-clause-certify
returns-clause-certify c = one_certifying

pub returns-clause-check : goal.returns-clause-check
returns-clause-check c = one_check
