use Rattle.std.proofs.Common.{◌≡◌, arith, to_z, of_z, w32}
use Rattle.std.proofs.lemmas.Int.{ints}
use Rattle.token_reading.proofs.Literals.{negative_found, unsigned_found}
use Rattle.token_reading.proofs.cursor.Cursor.literal.Goals as goal

pub returns-then-eat-clause-reads : goal.returns-then-eat-clause-reads
returns-then-eat-clause-reads c =
    let same : to_z w32 (of_z w32 c.negated.result) ≡ c.negated.result = omega (arith, ints) in
    rw (same, c.negated.ensures) (negative_found c.if-eat.ensures.found c.in_ok-depth.ensures.reads)

pub returns-clause-reads : goal.returns-clause-reads
returns-clause-reads c =
    let same = c.if-eat.ensures.found.0 in
    unsigned_found c.in_ok-token.token.now (rw same at c.in_ok-token.ensures.found) c.if-eat.ensures.found.1 c.in_ok-value.ensures
