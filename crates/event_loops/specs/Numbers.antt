-- The numbers of the items that wait: each is given once.
use Rattle.std.specs.Prelude.{ℕ, ◌<◌, ◌≤◌, ◌^◌, eqb, Bool, List}
use Rattle.std.specs.List.{count_by, sum_by}
use Rattle.event_loops.specs.declared.item.Posted.{Posted}
use Rattle.event_loops.specs.Queues.{Loop, Queues}

abbrev pub has_number : ℕ → Posted → Bool
has_number number p = eqb p.number number

-- how many items wait under a number, in all loops together
abbrev pub count_under : ℕ → List Loop → ℕ
count_under number loops = sum_by (λ (l : Loop). count_by (has_number number) l.items) loops

-- no two items wait under one number
abbrev pub AreDistinct : List Loop → Type 0
AreDistinct loops = (number : ℕ) → count_under number loops ≤ 1

-- an item that waits has a number from 1 on, and none above the last one given
abbrev pub AreGiven : List Loop → ℕ → Type 0
AreGiven loops last = (number : ℕ) → 0 < count_under number loops → (0 < number) × (number ≤ last)

-- what holds of the numbers at any time
pub record IsNumbered (s : Queues) : Type 0 where
  pub within : s.posted < 2 ^ 63
  pub distinct : AreDistinct s.loops
  pub given : AreGiven s.loops s.posted
