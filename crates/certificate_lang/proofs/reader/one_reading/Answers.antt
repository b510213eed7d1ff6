use Rattle.certificate_lang.proofs.Certificates.{one_certificate}
use Rattle.certificate_lang.proofs.reader.one_reading.Goals as goal

pub returns : goal.returns
returns c = one_certificate
