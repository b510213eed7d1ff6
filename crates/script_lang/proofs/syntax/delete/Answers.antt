use Rattle.script_lang.specs.Grammar.{tree_of_delete}
use Rattle.script_lang.proofs.Events.{within}
use Rattle.script_lang.proofs.syntax.delete.Goals as goal

pub returns : goal.returns
returns c = within tree_of_delete c.in_ok-object.ensures.reads
