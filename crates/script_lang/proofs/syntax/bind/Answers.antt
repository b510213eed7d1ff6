use Rattle.script_lang.proofs.Events.{bind_found}
use Rattle.script_lang.proofs.syntax.bind.Goals as goal

pub returns : goal.returns
returns c = bind_found c.in_ok-site.ensures.reads c.in_ok-target.ensures.reads c.in_ok-sources.ensures
