use Rattle.script_lang.proofs.Events.{adopt_found}
use Rattle.script_lang.proofs.syntax.adopt.Goals as goal

pub returns : goal.returns
returns c = adopt_found c.in_ok-parent.ensures.reads c.in_ok-child.ensures.reads
