use Rattle.std.proofs.Common.{◌≡◌, ◌++◌}
use Rattle.class_outlines.specs.Clashes.{HasTwoMembers}
use Rattle.name_indexes.specs.Places.{NoneStands}
use Rattle.class_outlines.proofs.indexed.index_outlines.Given as goal

-- those that were taken are indexed, and the others are left
abbrev pub invariant-loop-outline : goal.invariant-loop-outline
invariant-loop-outline l = record {
  same : l.indexed ≡ l.yielded;
  each_once : NoneStands HasTwoMembers l.yielded;
  split : l.yielded ++ l.outline-iterator.rest.items ≡ l.fn.outlines.items;
}
