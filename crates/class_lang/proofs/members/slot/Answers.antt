use Rattle.class_lang.proofs.Parts.{slot_parameters_are_parts}
use Rattle.class_lang.proofs.Sequences.{slot_found}
use Rattle.class_lang.proofs.members.slot.Goals as goal

pub list-requires : goal.list-requires
list-requires c = slot_parameters_are_parts

pub returns-clause-reads : goal.returns-clause-reads
returns-clause-reads c = slot_found c.in_ok-name.ensures.reads c.in_ok-parameters.ensures.reads c.in_ok-body.ensures.reads
