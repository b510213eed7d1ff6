use Rattle.script_lang.proofs.Events.{move_found}
use Rattle.script_lang.proofs.syntax.move_object.Goals as goal

pub returns : goal.returns
returns c = move_found c.in_ok-object.ensures.reads c.in_ok-home.ensures.reads
