use Rattle.std.proofs.Common.{All}
use Rattle.program_flaws.specs.Wires.{IsSo}
use Rattle.program_flaws.proofs.warned.remarks.add_of_slots.Given as goal

abbrev pub invariant-loop-method : goal.invariant-loop-method
invariant-loop-method l = All (IsSo l.meta) l.found.items

abbrev pub invariant-loop-class : goal.invariant-loop-class
invariant-loop-class l = All (IsSo l.meta) l.found.items
