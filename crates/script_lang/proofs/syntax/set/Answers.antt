use Rattle.script_lang.proofs.Events.{assignment_found}
use Rattle.script_lang.proofs.syntax.set.Goals as goal

pub returns : goal.returns
returns c = assignment_found c.in_ok-object.ensures c.in_ok-value.ensures.reads
