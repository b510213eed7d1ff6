use Rattle.script_lang.specs.declared.event.Event.TheVariants as tree
use Rattle.script_lang.proofs.Events.{within}
use Rattle.script_lang.proofs.syntax.disconnect.Goals as goal

pub returns : goal.returns
returns c = within (λ ends. tree.Disconnect ends) c.in_ok-ends.ensures.reads
