use Rattle.slot_lang.proofs.Arguments.{expressions_are_parts}
use Rattle.slot_lang.proofs.body.arguments.Goals as goal

pub list-requires : goal.list-requires
list-requires c = expressions_are_parts
