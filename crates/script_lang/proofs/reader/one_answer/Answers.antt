use Rattle.script_lang.proofs.OneAnswer.{one_result}
use Rattle.script_lang.proofs.reader.one_answer.Goals as goal

pub returns : goal.returns
returns c = one_result
