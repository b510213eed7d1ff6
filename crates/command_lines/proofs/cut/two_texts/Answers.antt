use Rattle.std.proofs.Common.{◌≡◌, true, false, [], ◌∷◌, Option, Some, None, MatchOption, sym, subst}
use Rattle.std.specs.Option.{is_some}
use Rattle.command_lines.specs.Cut.{IsUnparted}
use Rattle.texts.proofs.Partings.{one_parting, parted_or_not}
use Rattle.command_lines.proofs.Partings.{texts_once}
use Rattle.command_lines.proofs.cut.two_texts.Goals as goal

at_some : {X : Type 0} (o : Option X) (P : Type 0) (Q : X → Type 0) → is_some o ≡ true → MatchOption o P Q → (x : X) × Q x
at_some None P Q e h = cc
at_some (Some x) P Q e h = (x, h)

at_none : {X : Type 0} (o : Option X) (P : Type 0) (Q : X → Type 0) → is_some o ≡ false → MatchOption o P Q → P
at_none None P Q e h = h
at_none (Some x) P Q e h = cc

pub returns-in_err-rest-clause-cut : goal.returns-in_err-rest-clause-cut
returns-in_err-rest-clause-cut c =
    rw c.from_residual.ensures
    (λ first second cut. let whole = rw c.in_err-rest.was at c.first_text.ensures in parted_or_not cut.1 whole.1)

pub returns-then-is_some-clause-cut : goal.returns-then-is_some-clause-cut
returns-then-is_some-clause-cut c first second cut =
    let one = rw c.in_ok-rest.was at c.first_text.ensures in
    let two = at_some c.first_text-2.result.1 _ _ (cc) c.first_text-2.ensures in
    let unmarked = subst IsUnparted (sym cut.2.0) cut.2.1 in
    parted_or_not two.1 (subst IsUnparted (one_parting cut.1 one).1 unmarked)

pub returns-clause-only : goal.returns-clause-only
returns-clause-only c others cut =
    let one = rw c.in_ok-rest.was at c.first_text.ensures in
    let two = at_none c.first_text-2.result.1 _ _ (cc) c.first_text-2.ensures in
    texts_once c.args.input.now others (c.first_text.result.0.now ∷ c.first_text-2.result.0.now ∷ []) cut
    (c.in_ok-rest.rest.now, one, (sym two.0, subst IsUnparted (sym two.0) two.1))
