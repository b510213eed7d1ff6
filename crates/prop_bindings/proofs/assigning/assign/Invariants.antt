use Rattle.std.proofs.Common.{◌≡◌, length}
use Rattle.prop_bindings.specs.Plans.{assigned}
use Rattle.prop_bindings.specs.code.Parts.{ahead}
use Rattle.prop_bindings.proofs.assigning.assign.Given as goal

-- what is left makes of the objects as they are what all values make of them as they were
abbrev pub invariant-loop-key : goal.invariant-loop-key
invariant-loop-key l = assigned l.rest l.tree ≡ ahead l.fn.values l.initial.tree

abbrev pub decreases-loop-key : goal.decreases-loop-key
decreases-loop-key l = length l.rest
