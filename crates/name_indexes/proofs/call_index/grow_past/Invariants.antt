use Rattle.std.proofs.Common.{◌≡◌, ℕ, ◌+◌, ◌-◌, List, vec_len}
use Rattle.name_indexes.specs.CallPlaces.{place_at}
use Rattle.name_indexes.proofs.call_index.grow_past.Given as goal

-- nothing is found that wasn't before
abbrev pub invariant-loop-alloc : goal.invariant-loop-alloc
invariant-loop-alloc g l = (k : ℕ) (name : List ℕ) → place_at l.indexes.items k name ≡ place_at l.initial.indexes.items k name

abbrev pub decreases-loop-alloc : goal.decreases-loop-alloc
decreases-loop-alloc g l = l.count + 1 - vec_len l.indexes
