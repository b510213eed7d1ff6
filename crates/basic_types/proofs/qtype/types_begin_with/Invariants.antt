use Rattle.std.proofs.Common.{◌↔◌, length}
use Rattle.basic_types.specs.Types.{BeginsWith}
use Rattle.basic_types.proofs.qtype.types_begin_with.Given as goal

-- what is left of both lists decides
abbrev pub invariant-loop-kind : goal.invariant-loop-kind
invariant-loop-kind l = BeginsWith l.rest l.left ↔ BeginsWith l.types l.front

abbrev pub decreases-loop-kind : goal.decreases-loop-kind
decreases-loop-kind l = length l.left
