use Rattle.std.proofs.Common.{◌≡◌, ◌≤◌, ◌+◌, ◌++◌, eqb, length, map}
use Rattle.std.specs.VecDeque.{deque_len, deque_capacity}
use Rattle.indexmap.specs.IndexSet.{contains}
use Rattle.event_loops.specs.Queues.{all_items}
use Rattle.event_loops.specs.code.Rings.{loops_in, those_going, without_going}
use Rattle.event_loops.proofs.Gathering.{map_from, going_from}
use Rattle.event_loops.proofs.moving.gather.Given as goal

-- with the rest of the rings, all have given up what goes, for which there is room
abbrev pub invariant-loop-place : goal.invariant-loop-place
invariant-loop-place l = record {
  left : map_from l.place (without_going (contains eqb l.going)) (loops_in l.queues) ≡ map (without_going (contains eqb l.going)) (loops_in l.fn.queues);
  moved : l.ring.items ++ going_from (contains eqb l.going) l.place (loops_in l.queues) ≡ l.fn.ring.items ++ those_going (contains eqb l.going) (all_items (loops_in l.fn.queues));
  room : deque_len l.ring + length (going_from (contains eqb l.going) l.place (loops_in l.queues)) ≤ deque_capacity l.ring;
  there : length (loops_in l.queues) ≡ length (loops_in l.fn.queues);
}
