use Rattle.std.proofs.Common.{All}
use Rattle.program_flaws.specs.Wires.{IsSo}
use Rattle.program_flaws.proofs.warned.senders.add_lost_senders.Given as goal

abbrev pub invariant-loop-number : goal.invariant-loop-number
invariant-loop-number l = All (IsSo l.meta) l.found.items
