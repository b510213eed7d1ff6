use Rattle.certificate_lang.proofs.Lines.{text_is_read}
use Rattle.certificate_lang.proofs.laws.texts_are_read.Goals as goal

pub returns : goal.returns
returns c = text_is_read
