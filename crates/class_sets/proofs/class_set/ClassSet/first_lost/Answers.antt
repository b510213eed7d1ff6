use Rattle.std.proofs.Common.{Bool, List, sym, subst, arith}
use Rattle.class_sets.specs.Marks.{IsMarked}
use Rattle.class_sets.proofs.Words.{marked_has}
use Rattle.class_sets.proofs.class_set.ClassSet.first_lost.Goals as goal

pub returns : goal.returns
returns c = λ d h.
    let has = marked_has _ _ d (subst (λ (marks : List Bool). IsMarked marks d) (sym c.self.view_is) h) in
    c.loop-class.invariant d (omega (arith, has.0, c.loop-class-test.false)) h
