use Rattle.std.proofs.Common.{◌≡◌, ◌+◌, [], ◌∷◌, true, arith}
use Rattle.std.specs.Fmt.{signed_decimal}
use Rattle.std.proofs.lemmas.Fmt.{decimal_digit}
use Rattle.std.proofs.lemmas.Int.{ints, to_z-of_z}
use lib.IntN.{ℤ, pos, negsuc, nat_abs}
use lib.Signed.{le_z, lt_z}
use mir.Syntax.{w32}
use Rattle.command_lines.proofs.Sending.{as_text}
use Rattle.command_lines.proofs.line.Output+W.int.Goals as goal

one_digit : (z : ℤ) → le_z (pos 0) z ≡ true → lt_z z (pos 10) ≡ true → signed_decimal z ≡ (48 + nat_abs z) ∷ []
one_digit (pos n) not_negative below_ten = decimal_digit n (grind (arith, ints))
one_digit (negsuc n) not_negative below_ten = absurd (grind (arith, ints))

pub returns-then-number-lt10 : goal.returns-then-number-lt10
returns-then-number-lt10 g c =
    let same = to_z-of_z w32 c.args.number c.ranges.number in
    as_text (rw same at c.put_byte.ensures) (one_digit c.args.number (rw same at c.if-number-ge0.true) (rw same at c.if-number-lt10.true))
