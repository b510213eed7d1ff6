use Rattle.script_lang.specs.declared.event.Event.TheVariants as tree
use Rattle.script_lang.proofs.Events.{within}
use Rattle.script_lang.proofs.syntax.call.Goals as goal

pub returns : goal.returns
returns c = within (λ i. tree.Call i.0 i.1 i.2) c.in_ok-object.ensures
