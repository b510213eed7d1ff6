use Rattle.signatures.proofs.Spelling.{normal_sig, text_normal}
use Rattle.signatures.proofs.reader.texts_are_normal.Goals as goal

pub returns-clause-forms : goal.returns-clause-forms
returns-clause-forms c = normal_sig

pub returns-clause-texts : goal.returns-clause-texts
returns-clause-texts c = text_normal
