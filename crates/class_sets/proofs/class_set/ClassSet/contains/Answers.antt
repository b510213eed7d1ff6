use Rattle.std.proofs.Common.{arith}
use Rattle.class_sets.proofs.Words.{marked_has, bit_marked}
use Rattle.class_sets.proofs.class_set.ClassSet.contains.Goals as goal

pub returns-then-class-self : goal.returns-then-class-self
returns-then-class-self c = rw (← c.self.view_is) (λ t. cc, λ h. let m = marked_has _ _ _ h in absurd (omega (arith, m.0, c.if-class-self.true)))

pub returns : goal.returns
returns c = rw (c.as_slice.ensures, ← c.self.view_is) (bit_marked _ _ _ (omega (arith, c.if-class-self.false)))
