-- Sets of classes in words: word k has the classes from 64 k on, in order.
use Rattle.std.specs.Prelude.{◌≡◌, ℕ, ◌/◌, ◌%◌, ◌<◌, ◌≤◌, ◌==◌, Bool, List, length, map, slice_index_or, bit_or}
use Rattle.std.specs.List.{range_with_len}
use Rattle.std.specs.Int.{bit_at}
use Rattle.class_sets.specs.declared.class_set.TheConstants.{BITS}

-- the bit of a class
unfoldable pub has : List ℕ → ℕ → Bool
has words c = bit_at (slice_index_or words (c / BITS) 0) (c % BITS) == 1

-- the bit of each of the first classes
unfoldable pub marks_of : List ℕ → ℕ → List Bool
marks_of words room = map (has words) (range_with_len 0 room)

-- the words before the end have the bits of the other ones too, those behind it are as before
pub record JoinsTo (end : ℕ) (more before after : List ℕ) : Type 0 where
  pub count : length after ≡ length before
  pub joined : (k : ℕ) → k < end → slice_index_or after k 0 ≡ bit_or (slice_index_or before k 0) (slice_index_or more k 0)
  pub kept : (k : ℕ) → end ≤ k → slice_index_or after k 0 ≡ slice_index_or before k 0
