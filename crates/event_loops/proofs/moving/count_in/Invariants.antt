use Rattle.std.proofs.Common.{◌≡◌, ◌≤◌, ◌+◌, eqb, length, drop}
use Rattle.indexmap.specs.IndexSet.{contains}
use Rattle.event_loops.specs.code.Rings.{those_going}
use Rattle.event_loops.proofs.moving.count_in.Given as goal

-- with those of the rest, all are counted
abbrev pub invariant-loop-place : goal.invariant-loop-place
invariant-loop-place l = record {
  counted : l.count + length (those_going (contains eqb l.going) (drop l.place l.items.items)) ≡ length (those_going (contains eqb l.going) l.items.items);
  few : l.count ≤ l.place;
}
