use Rattle.std.proofs.Common.{arith}
use Rattle.token_reading.proofs.Literals.{number_found}
use Rattle.token_reading.proofs.cursor.Cursor.number.Goals as goal

pub returns-in-Some-clause-reads : goal.returns-in-Some-clause-reads
returns-in-Some-clause-reads c =
    let value = rw c.in-Some.is at c.value_of.ensures in
    number_found c.args.most c.as_slice.result.now c.in-Some.value (rw c.as_slice.ensures (rw c.in-Number.is at c.in_ok-digits.ensures.found)) value.0 (omega (arith, value.1, c.from.ensures))
