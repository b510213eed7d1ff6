use Rattle.std.proofs.Common.{◌≡◌, ◌++◌, take, sym, subst, arith}
use Rattle.std.proofs.lemmas.Grind.{common_steps}
use Rattle.basic_types.specs.Text.{longest_text, IsText}
use Rattle.expressions.proofs.Joining.{joined_text}
use Rattle.expressions.proofs.operators.join.Goals as goal

pub unreachable-requires : goal.unreachable-requires
unreachable-requires c =
    let fits = joined_text c.args.left.now c.args.right.now c.bytes.ensures.text c.bytes-2.ensures.text in
    let is : c.as_slice.result.now ≡ take longest_text (c.args.left.now ++ c.args.right.now) = grind (arith, common_steps) in
    let none = rw c.in_default.is at c.in_ok-text.ensures in
    none (subst IsText (sym is) fits)
