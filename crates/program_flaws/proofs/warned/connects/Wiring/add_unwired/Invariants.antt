use Rattle.std.proofs.Common.{All}
use Rattle.program_flaws.specs.Wires.{IsSo}
use Rattle.program_flaws.proofs.warned.connects.Wiring.add_unwired.Given as goal

abbrev pub invariant-loop-number : goal.invariant-loop-number
invariant-loop-number l = All (IsSo l.self.meta.now) l.found.items
