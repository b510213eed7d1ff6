use Rattle.std.proofs.Common.{◌≡◌, ◌+◌, ◌++◌, eqb, length, take}
use Rattle.std.specs.VecDeque.{deque_len, deque_capacity}
use Rattle.indexmap.specs.IndexSet.{contains}
use Rattle.event_loops.specs.code.Rings.{those_going}
use Rattle.event_loops.proofs.Gathering.{turned}
use Rattle.event_loops.proofs.moving.part.Given as goal

-- so many items were looked at: those that go are in the other ring, and those that stay come after the rest
abbrev pub invariant-loop-turn : goal.invariant-loop-turn
invariant-loop-turn l = record {
  left : l.items.items ≡ turned (contains eqb l.going) l.fn.items.items l.turn;
  moved : l.ring.items ≡ l.fn.ring.items ++ those_going (contains eqb l.going) (take l.turn l.fn.items.items);
  len : deque_len l.ring ≡ deque_len l.fn.ring + length (those_going (contains eqb l.going) (take l.turn l.fn.items.items));
  capacity : deque_capacity l.ring ≡ deque_capacity l.fn.ring;
}
