use Rattle.token_reading.specs.Signatures.{spell_sig, tree_of_sig}
use Rattle.class_lang.proofs.Sequences.{optional_found}
use Rattle.class_lang.proofs.members.notify.Goals as goal

pub returns-in_ok-sig-clause-reads : goal.returns-in_ok-sig-clause-reads
returns-in_ok-sig-clause-reads c = optional_found spell_sig tree_of_sig c.if-eat_word.ensures.found c.in_ok-sig.ensures.reads
