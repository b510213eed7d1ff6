use Rattle.std.proofs.Common.{◌≡◌, ◌≤◌, to_z, w32, pos, true, false, arith, refl}
use Rattle.std.proofs.lemmas.Int.{ints}
use Rattle.token_reading.specs.Literals.{truth}
use Rattle.token_reading.proofs.Literals.{is_number, is_quoted}
use Rattle.token_reading.proofs.literal.unsigned_literal.Goals as goal

pub returns-in-Some : goal.returns-in-Some
returns-in-Some c =
    let value = rw c.in-Some.is at c.value_of.ensures in
    let fits : c.in-Some.value ≤ 2147483647 = omega (arith, value.1, c.from.ensures) in
    let same : to_z w32 c.in-Some.value ≡ pos c.in-Some.value = omega (arith, ints) in
    rw same (is_number c.args.token.now c.as_slice.result.now c.in-Some.value (rw c.as_slice.ensures c.in-Number.is) value.0 fits)

pub returns-in-Some-2 : goal.returns-in-Some-2
returns-in-Some-2 c =
    let text = rw c.in-Some-2.is at c.in_ok-text-in-Text.ensures in
    rw text.0 (is_quoted c.args.token.now _ c.in-Text.is text.1)

pub returns-in-True : goal.returns-in-True
returns-in-True c = record { reading = truth true; is = cc; tree = refl }

pub returns-in-False : goal.returns-in-False
returns-in-False c = record { reading = truth false; is = cc; tree = refl }
