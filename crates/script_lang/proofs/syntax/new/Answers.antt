use Rattle.script_lang.proofs.Events.{new_found}
use Rattle.script_lang.proofs.syntax.new.Goals as goal

pub returns : goal.returns
returns c = new_found c.in_ok-object.ensures.reads c.in_ok-class.ensures.reads c.in_ok-home.ensures.reads
