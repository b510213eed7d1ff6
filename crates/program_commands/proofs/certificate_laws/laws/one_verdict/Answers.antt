use Rattle.program_commands.proofs.Verdicts.{one_verdict}
use Rattle.program_commands.proofs.certificate_laws.laws.one_verdict.Goals as goal

pub returns : goal.returns
returns c = one_verdict
