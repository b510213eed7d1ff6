use Rattle.std.proofs.Common.{◌∷◌, [], subst}
use Rattle.command_lines.specs.Cut.{AreTexts}
use Rattle.texts.proofs.Partings.{one_parting, parted_or_not}
use Rattle.command_lines.proofs.Partings.{texts_once}
use Rattle.command_lines.proofs.cut.three_texts.Goals as goal

pub returns-in_err-rest-clause-cut : goal.returns-in_err-rest-clause-cut
returns-in_err-rest-clause-cut c =
    rw c.from_residual.ensures
    (λ first second third cut. let whole = rw c.in_err-rest.was at c.first_text.ensures in parted_or_not cut.1 whole.1)

pub returns-in_err-second-clause-cut : goal.returns-in_err-second-clause-cut
returns-in_err-second-clause-cut c =
    let one = rw c.in_ok-rest.was at c.first_text.ensures in
    rw c.from_residual-in_err-second.ensures
    (λ first second third cut.
    c.in_err-second.ensures.cut second third (subst (λ r. AreTexts r (second ∷ third ∷ [])) (one_parting cut.1 one).1 cut.2))

pub returns-clause-cut : goal.returns-clause-cut
returns-clause-cut c =
    let one = rw c.in_ok-rest.was at c.first_text.ensures in
    (c.in_ok-rest.rest.now, one, c.in_ok-second.ensures.cut)

pub returns-clause-only : goal.returns-clause-only
returns-clause-only c others cut =
    let one = rw c.in_ok-rest.was at c.first_text.ensures in
    texts_once c.args.input.now others _ cut (c.in_ok-rest.rest.now, one, c.in_ok-second.ensures.cut)
