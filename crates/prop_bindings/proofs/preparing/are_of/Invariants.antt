use Rattle.std.proofs.Common.{◌↔◌, length}
use Rattle.std.specs.List.{AllZip}
use Rattle.prop_bindings.specs.Calls.{IsOf}
use Rattle.prop_bindings.proofs.preparing.are_of.Given as goal

-- what is left are of the classes that are left exactly where all are
abbrev pub invariant-loop-class : goal.invariant-loop-class
invariant-loop-class l =
    AllZip (IsOf l.meta l.tree) l.objects l.classes ↔ AllZip (IsOf l.meta l.tree) l.rest l.left

abbrev pub decreases-loop-class : goal.decreases-loop-class
decreases-loop-class l = length l.left
