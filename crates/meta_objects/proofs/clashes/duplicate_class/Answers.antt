use Rattle.std.proofs.Common.{inl, inr, refl}
use Rattle.class_outlines.specs.Clashes.{IsTaken, DuplicateClass}
use Rattle.meta_objects.proofs.clashes.duplicate_class.Goals as goal

pub returns-in-Some : goal.returns-in-Some
returns-in-Some c =
    let found = rw c.as_slice-classes.ensures at c.in-Some.ensures in
    (inr found.0, rw c.class_clash.ensures (record { leads = refl; declared = found.1 }))

pub returns-in-Some-first_repeated : goal.returns-in-Some-first_repeated
returns-in-Some-first_repeated c =
    let found = rw c.as_slice-classes.ensures at c.in-Some-first_repeated.ensures in
    (inl found.0, rw c.class_clash-in-Some-first_repeated.ensures (record { leads = refl; declared = found.1 }))

pub returns-in-None : goal.returns-in-None
returns-in-None c = λ duplicate.
    elim duplicate [
      | inl twice ↦ (rw c.as_slice-classes.ensures at c.in-None.ensures) twice
      | inr taken ↦ (rw c.as_slice-classes.ensures at c.in_default.ensures) taken
    ]
