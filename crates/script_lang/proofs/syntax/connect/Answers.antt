use Rattle.script_lang.proofs.Events.{connect_found}
use Rattle.script_lang.proofs.syntax.connect.Goals as goal

pub returns : goal.returns
returns c = connect_found c.in_ok-ends.ensures.reads c.in_ok-how.ensures.reads
