use Rattle.std.proofs.Common.{sym}
use Rattle.texts.proofs.FirstPieces.{letter_class, digit_class}
use Rattle.texts.proofs.bytes.class_of.Goals as goal

pub returns-then-is_letter : goal.returns-then-is_letter
returns-then-is_letter c = sym (letter_class c.args.b (sym c.if-is_letter.ensures))

pub returns-then-is_digit : goal.returns-then-is_digit
returns-then-is_digit c = sym (digit_class c.args.b (sym c.if-is_digit.ensures))
