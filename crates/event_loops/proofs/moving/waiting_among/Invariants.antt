use Rattle.std.proofs.Common.{◌≡◌, ◌&&◌, ℕ, eqb, nat_lt, take}
use Rattle.std.specs.List.{list_any}
use Rattle.indexmap.specs.IndexSet.{contains}
use Rattle.event_loops.specs.code.Counts.{waiting_of}
use Rattle.event_loops.proofs.moving.waiting_among.Given as goal

-- those that were looked at and for which items wait are in the set, and nothing else is
abbrev pub invariant-loop-object : goal.invariant-loop-object
invariant-loop-object l = (o : ℕ) → contains eqb l.numbers o ≡ (list_any (λ k. eqb o k) (take l.object-index l.objects) && nat_lt 0 (waiting_of l.marks o))
