use Rattle.class_lang.proofs.NativeParts.{effects_found}
use Rattle.class_lang.proofs.natives.effects.Goals as goal

pub returns-clause-reads : goal.returns-clause-reads
returns-clause-reads c = effects_found c.in_ok-reads.ensures.reads c.in_ok-emits.ensures.reads c.in_ok-sets.ensures.reads c.in_ok-expect.ensures.found
