use Rattle.token_reading.proofs.Signatures.{types_are_parts, sig_found}
use Rattle.token_reading.proofs.cursor.Cursor.sig.Goals as goal

pub list-requires : goal.list-requires
list-requires c = types_are_parts

pub returns-clause-reads : goal.returns-clause-reads
returns-clause-reads c = rw c.in_ok-sig.ensures (sig_found c.in_ok-name.ensures.reads c.in_ok-types.ensures.reads)
