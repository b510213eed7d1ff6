use Rattle.script_lang.specs.Grammar.{tree_of_loop}
use Rattle.script_lang.proofs.Events.{within}
use Rattle.script_lang.proofs.syntax.add_loop.Goals as goal

pub returns : goal.returns
returns c = within tree_of_loop c.in_ok-home.ensures.reads
