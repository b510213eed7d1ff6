use Rattle.std.proofs.Common.{ℕ, List, length, ap, arith}
use Rattle.class_sets.proofs.Words.{within_bits}
use Rattle.class_sets.proofs.class_set.ClassSet.has_no_more_bits.Goals as goal

pub returns : goal.returns
returns c = λ _.
    let count = ap (λ (ws : List ℕ). length ws) c.as_slice-word-items.ensures in
    let each = rw c.as_slice-word-items.ensures at c.loop-place.invariant in
    rw (← c.self.view_is, ← c.other.view_is)
    (within_bits c.self.inside.words c.other.inside.words (λ k low. each k (omega (arith, low, count, c.loop-place-test.false))) _ _ c.if-self-other.false)
