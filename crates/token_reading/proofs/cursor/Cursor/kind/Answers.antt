use Rattle.std.proofs.lemmas.Result.{err_from_is_err_and}
use Rattle.token_reading.proofs.Signatures.{no_type, type_found}
use Rattle.token_reading.proofs.cursor.Cursor.kind.Goals as goal

pub returns-in_err-place-clause-reads : goal.returns-in_err-place-clause-reads
returns-in_err-place-clause-reads c =
    let p = err_from_is_err_and c.from_residual.result c.from_residual.ensures.1 in
    rw (p.1, p.2) (λ k. no_type (c.in_err-place.ensures.reads k))

pub returns-clause-reads : goal.returns-clause-reads
returns-clause-reads c = rw c.type_of.ensures (type_found c.in_ok-place.ensures.reads c.type_ending-ending.ensures.is)
