use Rattle.type_check.specs.Typed.{IsTypedHere}
use Rattle.type_check.proofs.Firsts.{HaveBefore}
use Rattle.type_check.proofs.first.untyped_node.Given as goal

-- the earlier nodes are typed by themselves
abbrev pub invariant-loop-node : goal.invariant-loop-node
invariant-loop-node l = HaveBefore (IsTypedHere l.meta) l.node-items l.node-index
