use Rattle.script_lang.specs.Grammar.{tree_of_turn}
use Rattle.script_lang.proofs.Events.{within}
use Rattle.script_lang.proofs.syntax.turn.Goals as goal

pub returns : goal.returns
returns c = within tree_of_turn c.in_ok-home.ensures.reads
