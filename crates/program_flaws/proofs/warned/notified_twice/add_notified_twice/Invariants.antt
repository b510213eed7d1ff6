use Rattle.std.proofs.Common.{All}
use Rattle.program_flaws.specs.Wires.{IsSo}
use Rattle.program_flaws.proofs.warned.notified_twice.add_notified_twice.Given as goal

abbrev pub invariant-loop-property : goal.invariant-loop-property
invariant-loop-property l = All (IsSo l.meta) l.found.items
