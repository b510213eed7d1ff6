use Rattle.class_lang.proofs.OneAnswer.{one_program_text}
use Rattle.class_lang.proofs.OneTree.{one_program}
use Rattle.class_lang.proofs.reader.one_reading.Goals as goal

pub returns : goal.returns
returns c = record { tokens = one_program; text = λ bytes limits. one_program_text limits bytes }
