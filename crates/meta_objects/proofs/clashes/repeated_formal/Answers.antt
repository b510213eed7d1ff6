use Rattle.std.proofs.Common.{refl}
use Rattle.meta_objects.proofs.clashes.repeated_formal.Goals as goal

pub returns-in-Some : goal.returns-in-Some
returns-in-Some c = (record { twice = (rw c.as_slice.ensures at c.in-Some.ensures).0 }, rw c.twice.ensures refl)

pub returns-in-None : goal.returns-in-None
returns-in-None c = λ repeats. (rw c.as_slice.ensures at c.in-None.ensures) repeats.twice
