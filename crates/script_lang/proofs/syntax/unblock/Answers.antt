use Rattle.script_lang.specs.Grammar.{tree_of_unblock}
use Rattle.script_lang.proofs.Events.{within}
use Rattle.script_lang.proofs.syntax.unblock.Goals as goal

pub returns : goal.returns
returns c = within tree_of_unblock c.in_ok-object.ensures.reads
