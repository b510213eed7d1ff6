use Rattle.std.proofs.Common.{◌≡◌, ◌+◌, eqb, length}
use Rattle.indexmap.specs.IndexSet.{contains}
use Rattle.event_loops.specs.Queues.{all_items}
use Rattle.event_loops.specs.code.Rings.{loops_in, those_going}
use Rattle.event_loops.proofs.Gathering.{going_from}
use Rattle.event_loops.proofs.moving.count_in_all.Given as goal

-- with those of the other rings, all are counted
abbrev pub invariant-loop-place : goal.invariant-loop-place
invariant-loop-place l =
    l.count + length (going_from (contains eqb l.going) l.place (loops_in l.queues)) ≡ length (those_going (contains eqb l.going) (all_items (loops_in l.queues)))
