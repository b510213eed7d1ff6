use Rattle.std.proofs.Common.{sym, subst}
use Rattle.command_lines.specs.Words.{IsLimit}
use Rattle.command_lines.proofs.Saying.{after_first}
use Rattle.command_lines.proofs.words.Options.of.Goals as goal

pub returns-in_err-words-2-clause-said : goal.returns-in_err-words-2-clause-said
returns-in_err-words-2-clause-said c =
    rw c.from_residual-in_err-words-2.ensures
    (λ depth steps r. c.in_err-words-2.ensures _ (after_first _ _ _ _ _ c.in_ok-words.ensures r.are))

pub returns-in_err-steps-clause-said : goal.returns-in_err-steps-clause-said
returns-in_err-steps-clause-said c =
    rw c.from_residual-in_err-steps.ensures
    (λ depth steps r.
    let one = after_first _ _ _ _ _ c.in_ok-words.ensures r.are in
    let two = after_first _ _ _ _ _ c.in_ok-words-2.ensures one in
    let three = after_first _ _ _ _ _ c.in_ok-depth.ensures.are two in
    c.in_err-steps.ensures.said steps (subst (λ o. IsLimit o steps) (sym three) r.limited))
