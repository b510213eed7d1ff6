use Rattle.slot_lang.proofs.OneAnswer.{one_answer}
use Rattle.slot_lang.proofs.body.one_answer.Goals as goal

pub returns : goal.returns
returns c = one_answer
