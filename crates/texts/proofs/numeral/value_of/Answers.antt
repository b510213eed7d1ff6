use Rattle.std.proofs.Common.{arith}
use Rattle.texts.proofs.Numbers.{too_large}
use Rattle.texts.proofs.numeral.value_of.Goals as goal

pub returns-then-next-from : goal.returns-then-next-from
returns-then-next-from c = too_large c.args.digits.now c.loop-digit.digit-index c.loop-digit.value c.args.most (omega arith) c.loop-digit.invariant.so_far (omega arith)
