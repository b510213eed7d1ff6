use Rattle.settling_texts.proofs.Certificates.{one_settling}
use Rattle.settling_texts.proofs.laws.one_reading.Goals as goal

pub returns : goal.returns
returns c = one_settling
