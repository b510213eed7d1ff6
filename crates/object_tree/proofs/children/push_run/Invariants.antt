use Rattle.std.proofs.Common.{◌≡◌, ◌+◌, ◌++◌, drop}
use Rattle.std.specs.Vec.{vec_len, vec_capacity}
use Rattle.object_tree.specs.code.Adoptions.{adopted}
use Rattle.object_tree.proofs.children.push_run.Given as goal

-- with the rest, all are appended; there is room for the rest
abbrev pub invariant-loop-adoption : goal.invariant-loop-adoption
invariant-loop-adoption l = record {
  items : l.list.items ++ adopted (drop l.adoption-index l.adoptions) ≡ l.fn.list.items ++ adopted l.adoptions;
  len : vec_len l.list ≡ vec_len l.fn.list + l.adoption-index;
  capacity : vec_capacity l.list ≡ vec_capacity l.fn.list;
}
