use Rattle.std.proofs.Common.{◌≡◌, ◌<◌, ℕ, bit_or, get_or}
use Rattle.class_sets.proofs.class_set.ClassSet.has_no_more_bits.Given as goal

abbrev pub invariant-loop-place : goal.invariant-loop-place
invariant-loop-place l = (k : ℕ) → k < l.place → bit_or (get_or l.word-items k 0) (get_or l.other-inside.words k 0) ≡ get_or l.other-inside.words k 0
