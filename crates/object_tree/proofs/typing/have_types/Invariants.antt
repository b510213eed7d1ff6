use Rattle.std.proofs.Common.{◌↔◌, length}
use Rattle.object_tree.specs.Typed.{ReadAs}
use Rattle.object_tree.proofs.typing.have_types.Given as goal

-- what is left has the types that are left exactly where all do
abbrev pub invariant-loop-kind : goal.invariant-loop-kind
invariant-loop-kind l =
    ReadAs l.meta l.objects l.values l.types ↔ ReadAs l.meta l.objects l.rest l.left

abbrev pub decreases-loop-kind : goal.decreases-loop-kind
decreases-loop-kind l = length l.left
