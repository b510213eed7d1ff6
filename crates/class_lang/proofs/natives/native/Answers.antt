use Rattle.class_lang.proofs.NativeParts.{native_found}
use Rattle.class_lang.proofs.Parts.{signal_parameters_are_parts}
use Rattle.class_lang.proofs.natives.native.Goals as goal

pub list-requires : goal.list-requires
list-requires c = signal_parameters_are_parts

pub returns-clause-reads : goal.returns-clause-reads
returns-clause-reads c = native_found c.in_ok-name.ensures.reads c.in_ok-parameters.ensures.reads c.in_ok-effects.ensures.reads
