use Rattle.script_lang.specs.Grammar.{tree_of_block}
use Rattle.script_lang.proofs.Events.{within}
use Rattle.script_lang.proofs.syntax.block.Goals as goal

pub returns : goal.returns
returns c = within tree_of_block c.in_ok-object.ensures.reads
