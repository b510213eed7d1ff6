use Rattle.script_lang.specs.Grammar.{tree_of_later}
use Rattle.script_lang.proofs.Events.{within}
use Rattle.script_lang.proofs.syntax.later.Goals as goal

pub returns : goal.returns
returns c = within tree_of_later c.in_ok-object.ensures.reads
