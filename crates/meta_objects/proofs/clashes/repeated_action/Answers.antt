use Rattle.std.proofs.Common.{inl, inr, refl}
use Rattle.meta_objects.proofs.clashes.repeated_action.Goals as goal

pub returns-in-Some : goal.returns-in-Some
returns-in-Some c = let found = rw c.as_slice-emits.ensures at c.in-Some.ensures in (inl found.0, rw c.twice.ensures refl)

pub returns-in-Some-first_repeated : goal.returns-in-Some-first_repeated
returns-in-Some-first_repeated c =
    let found = rw c.as_slice.ensures at c.in-Some-first_repeated.ensures in (inr found.0, rw c.twice-in-Some-first_repeated.ensures refl)

pub returns-in-None : goal.returns-in-None
returns-in-None c = λ repeats.
    elim repeats [
      | inl emits ↦ (rw c.as_slice-emits.ensures at c.in_default.ensures) emits
      | inr sets ↦ (rw c.as_slice.ensures at c.in-None.ensures) sets
    ]
