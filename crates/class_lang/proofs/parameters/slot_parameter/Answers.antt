use Rattle.class_lang.proofs.Sequences.{slot_parameter_found}
use Rattle.class_lang.proofs.parameters.slot_parameter.Goals as goal

pub returns-clause-reads : goal.returns-clause-reads
returns-clause-reads c = slot_parameter_found c.in_ok-kind.ensures.reads c.in_ok-name.ensures.reads
