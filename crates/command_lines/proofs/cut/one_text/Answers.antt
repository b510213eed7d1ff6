use Rattle.std.proofs.Common.{[], ◌∷◌, sym, subst}
use Rattle.command_lines.specs.Cut.{IsUnparted}
use Rattle.texts.proofs.Partings.{parted_or_not}
use Rattle.command_lines.proofs.Partings.{texts_once}
use Rattle.command_lines.proofs.cut.one_text.Goals as goal

pub returns-in-Some-clause-cut : goal.returns-in-Some-clause-cut
returns-in-Some-clause-cut c text cut =
    parted_or_not (rw c.in-Some.is at c.first_text.ensures) (subst IsUnparted (sym cut.0) cut.1)

pub returns-in-None-clause-only : goal.returns-in-None-clause-only
returns-in-None-clause-only c others cut =
    let one = rw c.in-None.is at c.first_text.ensures in
    texts_once c.args.input.now others (c.first_text.result.0.now ∷ []) cut (sym one.0, subst IsUnparted (sym one.0) one.1)
