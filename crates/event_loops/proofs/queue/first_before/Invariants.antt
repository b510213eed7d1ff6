use Rattle.std.proofs.Common.{◌≡◌, ◌+◌, drop, option_map}
use Rattle.event_loops.specs.code.Rings.{place_of_first}
use Rattle.event_loops.specs.code.Marks.{since_of, is_due}
use Rattle.event_loops.proofs.queue.first_before.Given as goal

-- the first in the rest is the first of all, so many places later
abbrev pub invariant-loop-place : goal.invariant-loop-place
invariant-loop-place l =
    place_of_first (is_due (since_of l.marks) l.number) l.items.items ≡ option_map (λ k. k + l.place) (place_of_first (is_due (since_of l.marks) l.number) (drop l.place l.items.items))
