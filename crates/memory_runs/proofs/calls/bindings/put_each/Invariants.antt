use Rattle.object_tree.specs.Typed.{AreTyped}
use Rattle.memory_runs.proofs.calls.bindings.put_each.Given as goal

-- creations keep the values typed
abbrev pub invariant-loop-class : goal.invariant-loop-class
invariant-loop-class l = AreTyped l.meta l.tree
