use Rattle.std.proofs.Common.{All}
use Rattle.program_flaws.specs.Wires.{IsSo}
use Rattle.program_flaws.proofs.warned.idle_wires.add_idle_wires.Given as goal

abbrev pub invariant-loop-place : goal.invariant-loop-place
invariant-loop-place l = All (IsSo l.meta) l.found.items
