use Rattle.meta_objects.proofs.OnlyAnswer as only
use Rattle.meta_objects.proofs.laws.one_answer.Goals as goal

pub returns : goal.returns
returns c = only.one_answer
