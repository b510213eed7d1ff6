use Rattle.class_lang.proofs.OneAnswer as law
use Rattle.class_lang.proofs.reader.one_answer.Goals as goal

pub returns : goal.returns
returns c bytes limits = law.one_answer limits bytes
