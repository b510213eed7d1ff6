use Rattle.settling_texts.proofs.Written.{text_is_read}
use Rattle.settling_texts.proofs.laws.texts_are_read.Goals as goal

pub returns : goal.returns
returns c = text_is_read
