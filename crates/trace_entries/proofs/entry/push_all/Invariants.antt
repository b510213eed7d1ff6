use Rattle.std.proofs.Common.{◌≡◌, ◌++◌, ◌+◌, ◌≤◌, length}
use Rattle.std.specs.Array.Iter.{array_into_iter_items}
use Rattle.std.specs.Vec.{vec_len, vec_capacity}
use Rattle.trace_entries.proofs.entry.push_all.Given as goal

-- what is in the list and what is left are the whole, and there is room for what is left
abbrev pub invariant-loop-entry : goal.invariant-loop-entry
invariant-loop-entry g l = record {
  whole : l.list.items ++ array_into_iter_items l.entry-iterator ≡ l.fn.list.items ++ l.fn.entries;
  room : vec_len l.list + length (array_into_iter_items l.entry-iterator) ≤ vec_capacity l.list;
}
