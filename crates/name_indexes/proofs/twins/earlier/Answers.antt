use Rattle.std.proofs.Common.{◌∙◌, sym, arith}
use Rattle.std.proofs.lemmas.Option.{none-some, same_Some}
use Rattle.name_indexes.proofs.twins.earlier.Goals as goal

pub returns-in_default : goal.returns-in_default
returns-in_default g c = λ k found. absurd (none-some k (rw (c.called.ensures, c.count.ensures) at c.in_default.ensures ∙ found))

pub returns-then-first-place : goal.returns-then-first-place
returns-then-first-place g c = (sym (rw (c.called.ensures, c.count.ensures) at c.in-Some.ensures), c.if-first-place.true)

pub returns-else-first-place : goal.returns-else-first-place
returns-else-first-place g c = λ k found.
    let same = same_Some _ _ (rw (c.called.ensures, c.count.ensures) at c.in-Some.ensures ∙ found) in
    omega (arith, same, c.if-first-place.false)
