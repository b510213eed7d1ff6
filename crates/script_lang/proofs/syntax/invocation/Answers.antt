use Rattle.script_lang.proofs.Events.{invocation_found}
use Rattle.script_lang.proofs.OneTree.{inputs_are_parts}
use Rattle.script_lang.proofs.syntax.invocation.Goals as goal

pub list-requires : goal.list-requires
list-requires c = inputs_are_parts

pub returns : goal.returns
returns c = invocation_found c.in_ok-object.ensures c.in_ok-arguments.ensures.reads
