use Rattle.std.proofs.Common.{◌≡◌, Bool, List, slice_get, Some}
use Rattle.effect_scan.specs.declared.node.Node.{Node}
use Rattle.effect_scan.specs.Rows.{row}
use Rattle.settling.specs.code.ByNumbers.{Holds}
use Rattle.settling.proofs.Passing.{AllFirst}
use Rattle.settling.proofs.holding.sets_hold.Given as goal

abbrev pub invariant-loop-number : goal.invariant-loop-number
invariant-loop-number l = AllFirst (λ a (x : Node). (set : List Bool) → slice_get l.sets a ≡ Some set → Holds l.meta x (row l.scan.rows a) l.sets set) l.scan.nodes l.number
